use Rattle.spl_values.proofs.CodeLaws as laws
use Rattle.spl_values.proofs.laws.codes_keep_order.Goals as goal

pub returns : goal.returns
returns c = laws.codes_keep_order
