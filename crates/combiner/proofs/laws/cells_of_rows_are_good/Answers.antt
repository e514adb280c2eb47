use Rattle.combiner.proofs.OfRows.{table_cells_good, cells_cut, cell_alone}
use Rattle.combiner.proofs.laws.cells_of_rows_are_good.Goals as goal

pub returns-clause-good : goal.returns-clause-good
returns-clause-good c = table_cells_good

pub returns-clause-cells : goal.returns-clause-cells
returns-clause-cells c = cells_cut

pub returns-clause-alone : goal.returns-clause-alone
returns-clause-alone c = cell_alone
