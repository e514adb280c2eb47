use Rattle.client_rounds.proofs.FrameLengths.{round_is}
use Rattle.client_rounds.proofs.laws.key_frames_are_as_long_as_planned.Goals as goal

pub returns : goal.returns
returns c = λ e p checked shape params words bytes asked of. round_is e p checked shape params words bytes asked of
