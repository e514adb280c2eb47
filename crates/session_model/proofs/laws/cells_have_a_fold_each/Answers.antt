use Rattle.session_model.proofs.CellsBack.{folds_answer}
use Rattle.session_model.proofs.laws.cells_have_a_fold_each.Goals as goal

pub returns : goal.returns
returns c = folds_answer
