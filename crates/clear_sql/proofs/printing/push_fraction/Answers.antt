use Rattle.std.proofs.Common.{append_assoc, ◌∙◌}
use Rattle.clear_sql.proofs.printing.push_fraction.Goals as goal

pub returns : goal.returns
returns c = rw (c.in_ok-push.ensures.items, c.in_ok-push_number.ensures) at c.in_ok-push_number-2.ensures ∙ simp append_assoc
