use Rattle.session_model.proofs.SecondCells.{second_merge}
use Rattle.session_model.proofs.position_laws.second_cells_merge.Goals as goal

pub returns : goal.returns
returns c = λ checked table params valid accepted form known. second_merge checked table params accepted form known valid
