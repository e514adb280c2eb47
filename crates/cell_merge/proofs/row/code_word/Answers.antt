use Rattle.std.proofs.Common.{◌≡◌, ◌<◌, ◌^◌, ap, sym, ◌∙◌, rules}
use Rattle.spl_values.specs.Codes.{code_of}
use Rattle.spl_values.specs.Shapes.{ColumnParts}
use Rattle.cell_merge.proofs.RowCells.{code_below, code_in_row}
use Rattle.cell_merge.proofs.row.code_word.Goals as goal

pub overflow_cast-result : goal.overflow_cast-result
overflow_cast-result c =
    let column : ColumnParts = c.column-found.result.now in
    let kind = ap (λ (x : ColumnParts). x.kind) c.found.view_is in
    let fits = rw c.column-found.ensures.column at c.value-value.ensures.fits in
    let is : c.encode.result ≡ code_of column.kind c.value-value.result = rw kind at c.encode.ensures in
    let below : c.encode.result < 2 ^ 64 = code_below c.codes_are_below.ensures c.args.table.now.shape.schema.columns c.args.column column c.value-value.result c.encode.result c.column-found.ensures.column c.column-found.ensures.valid fits c.requires.bits is in
    search rules

pub returns : goal.returns
returns c =
    let column : ColumnParts = c.column-found.result.now in
    let kind = ap (λ (x : ColumnParts). x.kind) c.found.view_is in
    let is : c.encode.result ≡ code_of column.kind c.value-value.result = rw kind at c.encode.ensures in
    is ∙ sym (code_in_row c.args.table.now c.args.row c.args.column column c.value-value.result c.shape.ensures.valid c.requires.row c.column-found.ensures.column c.value-value.ensures.value)
