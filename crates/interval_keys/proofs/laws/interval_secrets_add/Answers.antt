use Rattle.interval_keys.proofs.IntervalLaw.{interval_adds, empty_adds}
use Rattle.interval_keys.proofs.laws.interval_secrets_add.Goals as goal

pub returns-clause-interval : goal.returns-clause-interval
returns-clause-interval c = interval_adds

pub returns-clause-empty : goal.returns-clause-empty
returns-clause-empty c = empty_adds
