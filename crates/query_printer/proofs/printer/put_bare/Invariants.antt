use Rattle.std.proofs.Common.{◌≡◌, map, drop}
use Rattle.query_grammar.specs.Grammar.{Bare}
use Rattle.query_tokens.specs.Printing.{written}
use Rattle.query_printer.specs.Leading.{led}
use Rattle.query_printer.proofs.printer.put_bare.Given as goal

abbrev pub invariant-loop-atom : goal.invariant-loop-atom
invariant-loop-atom l = written l.printer (led l.next (map Bare (drop l.atom-index l.atoms))) ≡ written l.initial.printer (led l.fn.first (map Bare l.atoms))
