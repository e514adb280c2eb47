use Rattle.std.proofs.Common.{◌≡◌, length, map, take}
use Rattle.cell_merge.specs.Cells.{cell_width}
use Rattle.cell_runs.specs.CellsBy.{ArePairs}
use Rattle.cell_runs.specs.Runs.{runs}
use Rattle.keyed_rows.specs.KeyedRows.{row_pair}
use Rattle.keyed_rows.proofs.merged.merged_cells.Given as goal

abbrev pub invariant-loop-keyed : goal.invariant-loop-keyed
invariant-loop-keyed l = record {
  pairs : ArePairs (cell_width l.checked.spec) (runs l.checked.spec (map (row_pair l.checked l.table) (take l.keyed-index l.rows))) l.keys.items l.cells.items;
  cell : length l.cell.items ≡ cell_width l.checked.spec;
}
