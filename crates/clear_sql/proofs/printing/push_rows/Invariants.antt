use Rattle.std.proofs.Common.{◌≡◌, ◌++◌, take}
use Rattle.clear_sql.specs.AnswerText.{row_lines}
use Rattle.clear_sql.proofs.printing.push_rows.Given as goal

abbrev pub invariant-loop-row : goal.invariant-loop-row
invariant-loop-row l = l.text.items ≡ l.initial.text.items ++ row_lines l.columns l.sort l.show (take l.row-index l.rows)
