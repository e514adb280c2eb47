use Rattle.std.proofs.Common.{sym}
use Rattle.spl_values.proofs.ShapeReading.{label_label_bytes}
use Rattle.spl_values.proofs.shape_reader.read_labels.Goals as goal

pub name_of-requires : goal.name_of-requires
name_of-requires c = label_label_bytes c.cut.result.0.now (sym c.if-not-is_label.ensures)
