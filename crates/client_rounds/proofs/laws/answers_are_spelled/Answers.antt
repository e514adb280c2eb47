use Rattle.client_rounds.proofs.Ends.{answer_spelled}
use Rattle.client_rounds.proofs.Spelled.{wide_small}
use Rattle.client_rounds.proofs.laws.answers_are_spelled.Goals as goal

pub returns : goal.returns
returns c = λ e p checked table params drawn valid asked built are. answer_spelled e checked table params drawn p valid asked.accepted asked.form.form asked.known built (wide_small drawn are)
