use Rattle.std.proofs.Common.{◌<◌, [], get_or, length, ap, arith}
use Rattle.spl_values.specs.Shapes.{ColumnParts}
use Rattle.spl_values.proofs.RowLaws.{join_step, join_end, keys_below}
use Rattle.spl_values.proofs.tables.join_key.Goals as goal

pub with_code-key-requires-clause-fits : goal.with_code-key-requires-clause-fits
with_code-key-requires-clause-fits c =
    let column : ColumnParts = c.column-column.result.now in
    let step = join_step c.args.table.now c.args.columns.now c.loop-number.number-index c.args.row c.loop-number.key column c.value.result c.shape.ensures.valid c.requires.row
    c.loop-number-test.true (c.requires.columns c.loop-number.number-index 0 c.loop-number-test.true) c.column-column.ensures.column c.value.ensures.value c.requires.bits c.loop-number.invariant in
    let kind = ap (λ (x : ColumnParts). x.kind) c.column.view_is in
    rw (c.bits.ensures, c.encode-code.ensures, kind) step.fits

pub loop-number-preserved : goal.loop-number-preserved
loop-number-preserved c =
    let column : ColumnParts = c.column-column.result.now in
    let step = join_step c.args.table.now c.args.columns.now c.loop-number.number-index c.args.row c.loop-number.key column c.value.result c.shape.ensures.valid c.requires.row
    c.loop-number-test.true (c.requires.columns c.loop-number.number-index 0 c.loop-number-test.true) c.column-column.ensures.column c.value.ensures.value c.requires.bits c.loop-number.invariant in
    let kind = ap (λ (x : ColumnParts). x.kind) c.column.view_is in
    rw (c.with_code-key.ensures, c.bits.ensures, c.encode-code.ensures, kind) step.next

pub returns-clause-key : goal.returns-clause-key
returns-clause-key c = join_end c.args.table.now c.args.columns.now c.loop-number.number-index c.args.row c.loop-number.key c.loop-number-test.false c.loop-number.invariant

pub returns-clause-below : goal.returns-clause-below
returns-clause-below c =
    let key = join_end c.args.table.now c.args.columns.now c.loop-number.number-index c.args.row c.loop-number.key c.loop-number-test.false c.loop-number.invariant in
    let in_row : c.args.row < length c.args.table.now.rows = omega (arith, c.shape.ensures.valid.count, c.requires.row) in
    rw key (keys_below c.args.table.now.shape.schema.columns (get_or c.args.table.now.rows c.args.row []) c.args.columns.now c.shape.ensures.valid.shape.schema.columns (c.shape.ensures.valid.rows c.args.row [] in_row))
