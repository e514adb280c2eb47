use Rattle.std.proofs.Common.{◌∷◌, ◌++◌, [], ap, sym, ◌∙◌}
use Rattle.std.proofs.lemmas.List.{append-nil}
use Rattle.spl_values.specs.ShapeTexts.{text_of_lines, column_line}
use Rattle.spl_values.proofs.ShapePrinting.{columns_text-more}
use Rattle.spl_values.proofs.shape_printer.push_columns.Goals as goal

pub loop-column-init : goal.loop-column-init
unfolding text_of_lines
loop-column-init c = sym (append-nil c.args.text.now.items)

pub loop-column-preserved : goal.loop-column-preserved
loop-column-preserved c =
    c.in_ok-push_column.ensures ∙ ap (λ t. t ++ (column_line c.column-item.result ++ 10 ∷ [])) c.loop-column.invariant
    ∙ columns_text-more c.args.columns.now c.loop-column.column-index c.column-item.result c.args.text.now.items c.loop-column-test.true c.column-item.is
