use Rattle.std.proofs.Common.{◌≡◌, ◌++◌, drop}
use Rattle.query_tokens.specs.Printing.{doubled}
use Rattle.query_tokens.proofs.printer.double.Given as goal

abbrev pub invariant-loop-b : goal.invariant-loop-b
invariant-loop-b l = l.out.items ++ doubled (drop l.b-index l.text) ≡ l.initial.out.items ++ doubled l.text
