use Rattle.spl_values.proofs.CodeLaws as laws
use Rattle.spl_values.proofs.laws.codes_are_below.Goals as goal

pub returns : goal.returns
returns c = laws.codes_below
