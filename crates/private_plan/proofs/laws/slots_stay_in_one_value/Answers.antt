use Rattle.private_plan.proofs.Accepted.{slots_agree, slots_single}
use Rattle.private_plan.proofs.laws.slots_stay_in_one_value.Goals as goal

pub returns : goal.returns
returns c = record { agree = slots_agree; single = slots_single }
