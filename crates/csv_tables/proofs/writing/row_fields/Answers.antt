use Rattle.std.proofs.Common.{◌≡◌, ◌<◌, ◌≤◌, [], length, get_or, sym, ap, ◌∙◌, arith}
use Rattle.std.proofs.lemmas.Option.{slice_get-get_or}
use Rattle.spl_values.specs.Shapes.{ColumnParts, SchemaParts, ShapeParts}
use Rattle.spl_values.specs.CellTexts.{text_of_value}
use Rattle.csv_tables.proofs.Written.{fields-more, fields-end}
use Rattle.csv_tables.proofs.writing.row_fields.Goals as goal

pub loop-number-preserved : goal.loop-number-preserved
loop-number-preserved c =
    let column : ColumnParts = c.column-column.result.now in
    let in_rows : c.args.row < length c.args.table.now.rows = omega (arith, c.shape.ensures.valid.count, c.requires) in
    let row = slice_get-get_or c.args.table.now.rows c.args.row [] in_rows in
    let value = rw row at c.value.ensures.value in
    let kind = ap (λ (x : ColumnParts). x.kind) c.column.view_is in
    let field : c.in_ok-field.field ≡ text_of_value column.kind c.value.result = c.in_ok-field.ensures ∙ ap (λ k. text_of_value k c.value.result) kind in
    let more = fields-more c.args.table.now.shape.schema.columns (get_or c.args.table.now.rows c.args.row []) c.loop-number.number column c.value.result c.loop-number.fields.items c.column-column.ensures.column value c.loop-number.invariant in
    rw (c.in_ok-push.ensures.items, field) more

pub returns : goal.returns
returns c =
    let columns = c.as_slice.ensures ∙ ap (λ (s : SchemaParts). s.columns) c.schema.view_is ∙ ap (λ (s : ShapeParts). s.schema.columns) (c.behind-table.view_is ∙ c.shape.ensures.shape) in
    let over : length c.args.table.now.shape.schema.columns ≤ c.loop-number.number = rw (← columns) c.loop-number-test.false in
    sym (fields-end c.args.table.now.shape.schema.columns (get_or c.args.table.now.rows c.args.row []) c.loop-number.number c.loop-number.fields.items over c.loop-number.invariant)
