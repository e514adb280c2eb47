use Rattle.private_plan.proofs.SecondRounds.{counts_below, counts_upto}
use Rattle.private_plan.proofs.laws.thresholds_count_rows.Goals as goal

pub returns : goal.returns
returns c = record { below = counts_below; upto = counts_upto }
