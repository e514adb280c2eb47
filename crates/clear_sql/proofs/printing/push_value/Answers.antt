use Rattle.std.proofs.Common.{ℕ, ◌++◌, List, sym, ap, ◌∙◌}
use Rattle.spl_values.specs.CellTexts.{text_of_value}
use Rattle.spl_values.specs.Shapes.{ColumnParts}
use Rattle.spl_values.specs.declared.kinds.ColumnType.{ColumnType}
use Rattle.cell_merge.specs.TableRows.{kind_or_numbers}
use Rattle.clear_sql.proofs.printing.push_value.Goals as goal

pub returns : goal.returns
returns c =
    let kind = ap (λ (x : ColumnParts). x.kind) c.found.view_is ∙ sym (ap kind_or_numbers c.column_at-found.ensures) in
    c.in_ok-extend_from_slice.ensures.items
    ∙ ap (λ (l : List ℕ). c.args.text.now.items ++ l) (c.as_slice.ensures ∙ c.in_ok-printed.ensures ∙ ap (λ (k : ColumnType). text_of_value k c.args.value) kind)
