use Rattle.std.proofs.Common.{◌≡◌, drop}
use Rattle.query_grammar.specs.declared.token.Token.TheVariants.{Symbol}
use Rattle.query_grammar.specs.declared.token.Symbol.TheVariants.{And}
use Rattle.query_grammar.specs.Grammar.{joined, atom_text}
use Rattle.query_tokens.specs.Printing.{written}
use Rattle.query_tokens.proofs.Writing.{left_of}
use Rattle.query_printer.proofs.printer.put_branch.Given as goal

abbrev pub invariant-loop-atom : goal.invariant-loop-atom
invariant-loop-atom l = written l.printer (left_of (Symbol And) atom_text l.first (drop l.atom-index l.atoms)) ≡ written l.initial.printer (joined (Symbol And) atom_text l.atoms)
