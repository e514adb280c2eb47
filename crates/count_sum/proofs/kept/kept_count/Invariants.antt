use Rattle.std.proofs.Common.{◌≡◌, ◌≤◌}
use Rattle.count_sum.proofs.KeptRows.{kept_to}
use Rattle.count_sum.proofs.kept.kept_count.Given as goal

abbrev pub invariant-loop-row : goal.invariant-loop-row
invariant-loop-row l = record {
  count : l.kept ≡ kept_to l.checked l.table l.row;
  few : l.kept ≤ l.row;
}
