use Rattle.spl_values.proofs.ShapeRoundTrip.{printed_reads}
use Rattle.spl_values.proofs.laws.printed_shapes_read.Goals as goal

pub returns : goal.returns
returns c = printed_reads
