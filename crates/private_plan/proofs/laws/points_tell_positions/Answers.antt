use Rattle.private_plan.proofs.SecondRounds.{positions_are_points, positions_tell}
use Rattle.private_plan.proofs.laws.points_tell_positions.Goals as goal

pub returns : goal.returns
returns c = record {
  points = λ rows counts few taken. positions_are_points rows counts few taken;
  tell = λ rows position counts few taken. positions_tell rows counts few taken position;
}
