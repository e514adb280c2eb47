use Rattle.std.proofs.Common.{map, take}
use Rattle.cell_merge.specs.Cells.{cell_width}
use Rattle.cell_runs.specs.CellsBy.{ArePairs}
use Rattle.keyed_rows.specs.KeyedRows.{row_pair}
use Rattle.keyed_rows.proofs.cells.cells_of.Given as goal

abbrev pub invariant-loop-keyed : goal.invariant-loop-keyed
invariant-loop-keyed l = ArePairs (cell_width l.checked.spec) (map (row_pair l.checked l.table) (take l.keyed-index l.rows)) l.keys.items l.cells.items
