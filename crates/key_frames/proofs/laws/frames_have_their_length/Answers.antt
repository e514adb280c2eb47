use Rattle.key_frames.proofs.FrameLaws.{frame_sized}
use Rattle.key_frames.proofs.NoteLaws.{note_sized}
use Rattle.key_frames.proofs.laws.frames_have_their_length.Goals as goal

pub returns-clause-frame : goal.returns-clause-frame
returns-clause-frame c = λ bytes f of. frame_sized bytes f of

pub returns-clause-note : goal.returns-clause-note
returns-clause-note c = λ bytes n of. note_sized bytes n of
