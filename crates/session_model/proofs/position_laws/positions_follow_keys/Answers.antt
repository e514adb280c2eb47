use Rattle.session_model.proofs.Positions.{each_between}
use Rattle.session_model.proofs.position_laws.positions_follow_keys.Goals as goal

pub returns : goal.returns
returns c = each_between
