use Rattle.std.proofs.Common.{◌≡◌, ◌==◌, drop}
use Rattle.std.specs.Prelude.{slice_get}
use Rattle.std.specs.List.{filter}
use Rattle.private_plan.proofs.covers.range_at.Given as goal

abbrev pub invariant-loop-range : goal.invariant-loop-range
invariant-loop-range l =
    slice_get (filter (λ r. r.level == l.level) (drop l.range-index l.ranges)) l.left ≡ slice_get (filter (λ r. r.level == l.level) l.ranges) l.place
