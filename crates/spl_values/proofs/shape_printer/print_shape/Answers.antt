use Rattle.std.proofs.Common.{◌∙◌}
use Rattle.spl_values.proofs.ShapePrinting.{text_of_shape}
use Rattle.spl_values.proofs.shape_printer.print_shape.Goals as goal

pub returns : goal.returns
returns c =
    let columns = rw c.as_slice.ensures at c.in_ok-push_columns.ensures in
    let text = rw c.in_ok-text.ensures at columns in
    rw (← c.shape.view_is, ← c.schema.view_is) (c.from_vec.ensures ∙ text_of_shape (record { schema = record { table = c.schema.inside.table; columns = c.schema.inside.columns }; rows = c.shape.inside.rows }) c.push_columns.new.text.items text)
