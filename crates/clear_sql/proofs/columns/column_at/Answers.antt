use Rattle.std.proofs.Common.{Some, sym, ap, ◌∙◌}
use Rattle.std.proofs.lemmas.Option.{slice_get-get_or}
use Rattle.spl_values.specs.Shapes.{ColumnParts}
use Rattle.clear_sql.proofs.columns.column_at.Goals as goal

pub returns : goal.returns
returns c = slice_get-get_or c.args.columns.now c.args.number c.index-columns-number.result c.requires ∙ ap (λ (x : ColumnParts). Some x) (sym c.index-columns-number.is)
