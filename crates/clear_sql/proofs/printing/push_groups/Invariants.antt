use Rattle.std.proofs.Common.{◌≡◌, ◌++◌, take}
use Rattle.clear_sql.specs.AnswerText.{answer_text}
use Rattle.clear_sql.proofs.printing.push_groups.Given as goal

abbrev pub invariant-loop-group : goal.invariant-loop-group
invariant-loop-group l = l.text.items ≡ l.initial.text.items ++ answer_text l.columns l.spec (take l.group-index l.groups)
