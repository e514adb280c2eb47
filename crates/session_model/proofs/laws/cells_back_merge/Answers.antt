use Rattle.session_model.proofs.CellsMerge.{back_merge}
use Rattle.session_model.proofs.laws.cells_back_merge.Goals as goal

pub returns : goal.returns
returns c = back_merge
