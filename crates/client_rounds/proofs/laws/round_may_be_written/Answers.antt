use Rattle.client_rounds.proofs.Written.{key_frame_allowed, note_allowed}
use Rattle.client_rounds.proofs.laws.round_may_be_written.Goals as goal

pub returns-clause-frame : goal.returns-clause-frame
returns-clause-frame c = key_frame_allowed

pub returns-clause-note : goal.returns-clause-note
returns-clause-note c = note_allowed
