use Rattle.session_model.proofs.PointCells.{point_told}
use Rattle.session_model.proofs.laws.points_tell_a_cell.Goals as goal

pub returns : goal.returns
returns c = point_told
