use Rattle.spl_values.proofs.ShapeReading.{labels_are_text}
use Rattle.spl_values.proofs.shape_reader.name_of.Goals as goal

pub unreachable-requires : goal.unreachable-requires
unreachable-requires c = c.in-Err.ensures.cases.0 (labels_are_text c.args.bytes.now c.requires)
