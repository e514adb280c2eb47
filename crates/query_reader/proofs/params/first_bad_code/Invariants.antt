use Rattle.std.proofs.Common.{ℕ, ◌<◌}
use Rattle.query_reader.specs.Params.{IsCodeAt}
use Rattle.query_reader.proofs.params.first_bad_code.Given as goal

abbrev pub invariant-loop-i : goal.invariant-loop-i
invariant-loop-i l = (k : ℕ) → k < l.i → IsCodeAt l.schema l.marks l.codes k
