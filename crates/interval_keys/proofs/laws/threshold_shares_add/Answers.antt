use Rattle.interval_keys.proofs.ThresholdLaw.{threshold_shares_add}
use Rattle.interval_keys.proofs.laws.threshold_shares_add.Goals as goal

pub returns : goal.returns
returns c = threshold_shares_add
