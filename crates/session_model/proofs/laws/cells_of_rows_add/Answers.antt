use Rattle.session_model.proofs.CellSums.{rows_add}
use Rattle.session_model.proofs.laws.cells_of_rows_add.Goals as goal

pub returns : goal.returns
returns c = λ adds spec passes rows k sums. rows_add adds spec sums passes rows k
