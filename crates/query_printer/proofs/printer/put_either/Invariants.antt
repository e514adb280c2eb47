use Rattle.std.proofs.Common.{◌≡◌, drop}
use Rattle.query_grammar.specs.declared.token.Token.TheVariants.{Symbol}
use Rattle.query_grammar.specs.declared.token.Symbol.TheVariants.{Or}
use Rattle.query_grammar.specs.Grammar.{joined, branch_text}
use Rattle.query_tokens.specs.Printing.{written}
use Rattle.query_tokens.proofs.Writing.{left_of}
use Rattle.query_printer.proofs.printer.put_either.Given as goal

abbrev pub invariant-loop-branch : goal.invariant-loop-branch
invariant-loop-branch l = written l.printer (left_of (Symbol Or) branch_text l.first (drop l.branch-index l.branches)) ≡ written l.initial.printer (joined (Symbol Or) branch_text l.branches)
