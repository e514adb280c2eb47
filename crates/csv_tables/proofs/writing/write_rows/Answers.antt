use Rattle.std.proofs.Common.{◌≡◌, ◌++◌, ◌<◌, ℕ, List, length, map, take, ap, subst, ◌∙◌, arith}
use Rattle.std.proofs.lemmas.List.{append-nil, take_all}
use Rattle.spl_values.specs.Shapes.{ShapeParts}
use Rattle.csv_tables.specs.Standing.{HasWritten}
use Rattle.csv_tables.specs.Writing.{fields_of_row, records_text}
use Rattle.csv_tables.proofs.Written.{rows_text-more}
use Rattle.csv_tables.proofs.writing.write_rows.Goals as goal

pub loop-row-init : goal.loop-row-init
unfolding records_text
loop-row-init c text h = rw append-nil h

pub loop-row-preserved : goal.loop-row-preserved
loop-row-preserved c text h =
    let f = fields_of_row c.args.table.now.shape.schema.columns in
    let count = ap (λ (s : ShapeParts). s.rows) (c.behind-table.view_is ∙ c.shape.ensures.shape) in
    let within : c.loop-row.row < length c.args.table.now.rows = omega (arith, count, c.shape.ensures.valid.count, c.loop-row-test.true) in
    let before = c.loop-row.invariant text h in
    let after = c.in_ok-write_record.ensures (text ++ records_text (map f (take c.loop-row.row c.args.table.now.rows))) before in
    let fields = c.as_slice.ensures.value ∙ c.in_ok-fields.ensures in
    let whole = rows_text-more f c.args.table.now.rows c.loop-row.row text within in
    subst (λ (t : List ℕ). HasWritten c.write_record.new.writer t) whole (rw fields at after)

pub returns : goal.returns
returns c text h =
    let count = ap (λ (s : ShapeParts). s.rows) (c.behind-table.view_is ∙ c.shape.ensures.shape) in
    let all : take c.loop-row.row c.args.table.now.rows ≡ c.args.table.now.rows = take_all c.loop-row.row c.args.table.now.rows (omega (arith, count, c.shape.ensures.valid.count, c.loop-row-test.false)) in
    rw all at (c.loop-row.invariant text h)
