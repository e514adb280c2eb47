use Rattle.std.proofs.Common.{append_assoc, ◌∙◌}
use Rattle.clear_sql.specs.AnswerText.{row_line}
use Rattle.clear_sql.proofs.printing.push_row.Goals as goal

pub returns : goal.returns
unfolding row_line
returns c =
    rw (c.in_ok-push_value-2.ensures, c.in_ok-push-2.ensures.items, c.in_ok-push_value.ensures, c.in_ok-push.ensures.items, c.in_ok-push_number.ensures) at c.in_ok-push-3.ensures.items ∙ simp append_assoc
