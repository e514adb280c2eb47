use Rattle.answer_frames.proofs.Answers.{length-answer}
use Rattle.answer_frames.proofs.laws.answers_have_their_length.Goals as goal

pub returns : goal.returns
returns c = λ bytes f of. length-answer bytes f of
