use Rattle.std.proofs.Common.{◌∙◌}
use Rattle.clear_sql.proofs.printing.answer_text.Goals as goal

pub push_groups-requires-clause-fits : goal.push_groups-requires-clause-fits
push_groups-requires-clause-fits c = rw c.as_slice-columns.ensures (rw (← c.schema.view_is) at c.requires.fits)

pub push_groups-requires-clause-groups : goal.push_groups-requires-clause-groups
push_groups-requires-clause-groups c = rw (c.as_slice-columns.ensures, c.as_slice.ensures) (rw (← c.schema.view_is) at c.requires.groups)

pub returns : goal.returns
returns c = rw (← c.schema.view_is) (c.from_vec.ensures ∙ rw (c.new-text.ensures.items, c.as_slice-columns.ensures, c.as_slice.ensures) at c.in_ok-push_groups.ensures)
