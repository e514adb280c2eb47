use Rattle.key_frames.proofs.FrameLaws.{frame_is_read}
use Rattle.key_frames.proofs.NoteLaws.{note_is_read}
use Rattle.key_frames.proofs.laws.frames_are_read_where_spelled.Goals as goal

pub returns-clause-frame : goal.returns-clause-frame
returns-clause-frame c = λ bytes f are. frame_is_read bytes f are

pub returns-clause-note : goal.returns-clause-note
returns-clause-note c = λ bytes n are. note_is_read bytes n are
