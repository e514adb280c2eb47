use Rattle.std.proofs.Common.{sym}
use Rattle.spl_values.proofs.ShapeReading.{name_label_bytes}
use Rattle.spl_values.proofs.shape_reader.read_table_name.Goals as goal

pub name_of-requires : goal.name_of-requires
name_of-requires c = name_label_bytes c.in-Some.name.now (sym c.if-is_name.ensures)
