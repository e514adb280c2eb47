use Rattle.point_keys.proofs.PointLaw.{point_shares_add}
use Rattle.point_keys.proofs.laws.point_shares_add.Goals as goal

pub returns : goal.returns
returns c = point_shares_add
