use Rattle.splinter_steps.proofs.Refused.{taken}
use Rattle.splinter_steps.proofs.judging.judge.Goals as goal

pub returns-clause-asked : goal.returns-clause-asked
returns-clause-asked c = record {
  checked = c.in_ok-checked.ensures.known;
  built = c.in_ok-check_built.ensures.built;
  params = c.in_ok-params.ensures.known;
  words = (_, taken _ _ c.in_ok-params.ensures.gives);
}
