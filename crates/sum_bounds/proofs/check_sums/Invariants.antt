use Rattle.std.proofs.Common.{◌≡◌, drop}
use Rattle.sum_bounds.specs.Bounds.{sums_bounded}
use Rattle.sum_bounds.proofs.check_sums.Given as goal

abbrev pub invariant-loop-item : goal.invariant-loop-item
invariant-loop-item l = sums_bounded l.table (drop l.item-index l.items) ≡ sums_bounded l.table l.items
