use Rattle.private_plan.proofs.Telling.{are_points, tell_rows}
use Rattle.private_plan.proofs.laws.points_tell_matching_rows.Goals as goal

pub returns-clause-points : goal.returns-clause-points
returns-clause-points c = λ checked shape params schema accepted form known brings. are_points checked shape params schema accepted form known brings

pub returns-clause-tell : goal.returns-clause-tell
returns-clause-tell c = λ checked shape params r schema accepted form known room brings. tell_rows checked shape params schema accepted form known brings r room
