use Rattle.std.proofs.Common.{◌≡◌, ◌+◌, ◌<◌, ℕ, true, take}
use Rattle.cell_merge.specs.TableRows.{rows_of}
use Rattle.sum_bounds.specs.Sums.{column_sum, is_bounded}
use Rattle.sum_bounds.proofs.check_sum.Given as goal

abbrev pub invariant-loop-row : goal.invariant-loop-row
invariant-loop-row l = record {
  summed : l.total ≡ column_sum l.table.shape.schema.columns l.column (take l.row (rows_of l.table));
  bounded : (earlier : ℕ) → earlier < l.row → is_bounded l.table.shape.schema.columns l.column (take (earlier + 1) (rows_of l.table)) ≡ true;
}
