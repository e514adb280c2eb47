use Rattle.std.proofs.Common.{◌≡◌, ap, sym, ◌∙◌}
use Rattle.spl_values.specs.Codes.{code_of}
use Rattle.spl_values.specs.Shapes.{ColumnParts}
use Rattle.cell_merge.proofs.RowCells.{code_in_row}
use Rattle.cell_merge.proofs.row.code_at.Goals as goal

pub returns : goal.returns
returns c =
    let column : ColumnParts = c.column-found.result.now in
    let kind = ap (λ (x : ColumnParts). x.kind) c.found.view_is in
    let is : c.encode.result ≡ code_of column.kind c.value.result = rw kind at c.encode.ensures in
    is ∙ sym (code_in_row c.args.table.now c.args.row c.args.column column c.value.result c.shape.ensures.valid c.requires.row c.column-found.ensures.column c.value.ensures.value)
