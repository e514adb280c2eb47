use Rattle.std.proofs.Common.{ℕ, ◌++◌, List, sym, ap, ◌∙◌}
use Rattle.spl_values.specs.Shapes.{ColumnParts}
use Rattle.clear_sql.specs.AnswerText.{name_of}
use Rattle.clear_sql.proofs.printing.push_name.Goals as goal

pub returns : goal.returns
returns c =
    c.in_ok-extend_from_slice.ensures.items
    ∙ ap (λ (l : List ℕ). c.args.text.now.items ++ l) (c.as_bytes.ensures ∙ ap (λ (x : ColumnParts). x.name) c.found.view_is ∙ sym (ap name_of c.column_at-found.ensures))
