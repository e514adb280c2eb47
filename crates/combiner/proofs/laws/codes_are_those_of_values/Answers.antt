use Rattle.combiner.proofs.Codes.{codes_told}
use Rattle.combiner.proofs.laws.codes_are_those_of_values.Goals as goal

pub returns : goal.returns
returns c = codes_told
