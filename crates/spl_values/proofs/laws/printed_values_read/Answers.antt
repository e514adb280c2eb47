use Rattle.spl_values.proofs.CellLaws.{printed_values_read}
use Rattle.spl_values.proofs.laws.printed_values_read.Goals as goal

pub returns : goal.returns
returns c = printed_values_read
