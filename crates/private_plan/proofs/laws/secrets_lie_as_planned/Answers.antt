use Rattle.private_plan.proofs.Accepted.{secrets_laid}
use Rattle.private_plan.proofs.SecondRounds.{second_laid}
use Rattle.private_plan.proofs.laws.secrets_lie_as_planned.Goals as goal

pub returns : goal.returns
returns c = record { first = secrets_laid; second = second_laid }
