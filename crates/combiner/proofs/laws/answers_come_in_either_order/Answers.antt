use Rattle.combiner.proofs.Adding.{combined_either}
use Rattle.combiner.proofs.laws.answers_come_in_either_order.Goals as goal

pub returns : goal.returns
returns c = combined_either
