use Rattle.session_model.proofs.Answers.{answers_add}
use Rattle.session_model.proofs.laws.answers_add_to_the_matching_cell.Goals as goal

pub returns : goal.returns
returns c = answers_add
