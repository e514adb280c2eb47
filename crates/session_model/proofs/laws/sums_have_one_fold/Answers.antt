use Rattle.session_model.proofs.Answers.{one_fold}
use Rattle.session_model.proofs.laws.sums_have_one_fold.Goals as goal

pub returns : goal.returns
returns c = one_fold
