use Rattle.std.proofs.Common.{◌++◌, [], map, sym, ap, ◌∙◌}
use Rattle.csv.specs.Writing.{default_writer, row_text}
use Rattle.spl_values.specs.Shapes.{SchemaParts, ShapeParts, names_of}
use Rattle.csv_tables.specs.Writing.{fields_of_row, records_text}
use Rattle.csv_tables.proofs.Written.{records-cons}
use Rattle.csv_tables.proofs.writing.write_table.Goals as goal

pub returns : goal.returns
returns c =
    let columns = c.as_slice.ensures ∙ ap (λ (s : SchemaParts). s.columns) c.schema.view_is ∙ ap (λ (s : ShapeParts). s.schema.columns) (c.behind-table.view_is ∙ c.shape.ensures.shape) in
    let names = c.as_slice-2.ensures.value ∙ c.in_ok-names.ensures ∙ ap names_of columns in
    let head = c.in_ok-write_record.ensures [] c.new_writer-writer.ensures in
    let all = c.in_ok-write_rows.ensures ([] ++ row_text default_writer c.as_slice-2.result.now) head in
    let text = c.in_ok-text.ensures (([] ++ row_text default_writer c.as_slice-2.result.now) ++ records_text (map (fields_of_row c.args.table.now.shape.schema.columns) c.args.table.now.rows)) all in
    let rows = records_text (map (fields_of_row c.args.table.now.shape.schema.columns) c.args.table.now.rows) in
    c.from_vec.ensures ∙ text ∙ ap (λ n. row_text default_writer n ++ rows) names
    ∙ sym (records-cons (names_of c.args.table.now.shape.schema.columns) (map (fields_of_row c.args.table.now.shape.schema.columns) c.args.table.now.rows))
