use Rattle.std.proofs.Common.{◌≡◌, ◌++◌, List, true, map, drop}
use Rattle.query_grammar.specs.Grammar.{Part, Shown}
use Rattle.query_tokens.specs.Printing.{written}
use Rattle.query_printer.specs.Leading.{led}
use Rattle.query_printer.proofs.printer.put_publics.Given as goal

abbrev pub invariant-loop-public : goal.invariant-loop-public
invariant-loop-public l = (rest : List Part) → written l.printer (led l.first (map Shown (drop l.public-index l.publics) ++ rest)) ≡ written l.initial.printer (led true (map Shown l.publics ++ rest))
