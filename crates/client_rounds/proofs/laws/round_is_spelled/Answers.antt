use Rattle.client_rounds.proofs.Spelled.{frame_spelled, note_spelled}
use Rattle.client_rounds.proofs.laws.round_is_spelled.Goals as goal

pub returns-clause-frame : goal.returns-clause-frame
returns-clause-frame c = frame_spelled

pub returns-clause-note : goal.returns-clause-note
returns-clause-note c = note_spelled
