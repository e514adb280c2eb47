use Rattle.std.proofs.Common.{◌≡◌, ◌++◌, drop}
use Rattle.query_reader.specs.Params.{marks_of}
use Rattle.query_reader.proofs.params.marks.Given as goal

abbrev pub invariant-loop-branch : goal.invariant-loop-branch
invariant-loop-branch l = l.marks.items ++ marks_of l.schema (drop l.branch-index l.branches) ≡ marks_of l.schema l.branches
