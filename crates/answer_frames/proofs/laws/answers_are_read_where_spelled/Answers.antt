use Rattle.answer_frames.proofs.Answers.{answer_law}
use Rattle.answer_frames.proofs.laws.answers_are_read_where_spelled.Goals as goal

pub returns : goal.returns
returns c = λ bytes f are. answer_law bytes f are
