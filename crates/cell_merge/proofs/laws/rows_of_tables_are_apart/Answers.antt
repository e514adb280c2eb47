use Rattle.cell_merge.proofs.RowCells.{rows_apart}
use Rattle.cell_merge.proofs.laws.rows_of_tables_are_apart.Goals as goal

pub returns : goal.returns
returns c = rows_apart
