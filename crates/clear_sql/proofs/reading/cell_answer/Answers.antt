use Rattle.std.proofs.Common.{ap, ◌∙◌}
use Rattle.spl_values.specs.Shapes.{SchemaParts}
use Rattle.clear_sql.specs.CellAnswers.{answer_of}
use Rattle.clear_sql.proofs.reading.cell_answer.Goals as goal

pub groups_in-requires-clause-fits : goal.groups_in-requires-clause-fits
groups_in-requires-clause-fits c = rw c.as_slice-columns.ensures (rw (← c.schema.view_is) at c.requires.fits)

pub groups_in-requires-clause-words : goal.groups_in-requires-clause-words
groups_in-requires-clause-words c = rw c.as_slice-columns.ensures (rw (← c.schema.view_is) at c.requires.words)

pub returns : goal.returns
returns c = c.in_ok-groups.ensures ∙ ap (λ l. answer_of l c.args.spec.now c.args.cell.now) (c.as_slice-columns.ensures ∙ ap (λ (s : SchemaParts). s.columns) c.schema.view_is)
