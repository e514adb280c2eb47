use Rattle.std.proofs.Common.{◌≡◌, [], ◌∷◌, ap, sym, ◌∙◌, arith}
use Rattle.spl_values.specs.Kinds.{bits_of}
use Rattle.spl_values.specs.Shapes.{ColumnParts}
use Rattle.spl_values.specs.Tables.{column_bits}
use Rattle.spl_values.proofs.RowLaws.{column_bits-at, key_bits-cons, key_bits-nil}
use Rattle.data_tests.proofs.tables.first_key.Goals as goal

pub join_key-requires-clause-bits : goal.join_key-requires-clause-bits
join_key-requires-clause-bits c =
    let columns = c.args.table.now.shape.schema.columns in
    let high_kind = ap (λ (x : ColumnParts). bits_of x.kind) c.behind-table.view_is in
    let low_kind = ap (λ (x : ColumnParts). bits_of x.kind) c.behind-table-2.view_is in
    let high : column_bits columns c.args.high ≡ c.bits.result = column_bits-at columns c.args.high c.column.result.now c.column.ensures.column ∙ sym (c.bits.ensures ∙ high_kind) in
    let low : column_bits columns c.args.low ≡ c.bits-2.result = column_bits-at columns c.args.low c.column-2.result.now c.column-2.ensures.column ∙ sym (c.bits-2.ensures ∙ low_kind) in
    rw (key_bits-cons columns c.args.high (c.args.low ∷ []), key_bits-cons columns c.args.low [], key_bits-nil columns, high, low) (omega (arith, c.if-key_bits-gt128.false))
