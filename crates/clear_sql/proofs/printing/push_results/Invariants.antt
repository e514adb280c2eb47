use Rattle.std.proofs.Common.{◌≡◌, ◌++◌, drop}
use Rattle.clear_sql.specs.AnswerText.{results_lines}
use Rattle.clear_sql.proofs.printing.push_results.Given as goal

abbrev pub invariant-loop-i : goal.invariant-loop-i
invariant-loop-i l = l.initial.text.items ++ results_lines l.columns l.items l.results ≡ l.text.items ++ results_lines l.columns (drop l.i l.items) (drop l.i l.results)
