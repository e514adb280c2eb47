use Rattle.count_sum.specs.SumPairs.{AreRowCells}
use Rattle.count_sum.proofs.KeptRows.{rows_to}
use Rattle.count_sum.proofs.rows.row_cells.Given as goal

abbrev pub invariant-loop-row : goal.invariant-loop-row
invariant-loop-row l = AreRowCells l.checked l.table (rows_to l.table l.row) l.keys.items l.cells.items
