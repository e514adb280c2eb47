use Rattle.client_rounds.proofs.Read.{note_read, answer_frame_read}
use Rattle.client_rounds.proofs.laws.spelled_frames_are_read.Goals as goal

pub returns-clause-note : goal.returns-clause-note
returns-clause-note c = note_read

pub returns-clause-answer : goal.returns-clause-answer
returns-clause-answer c = answer_frame_read
