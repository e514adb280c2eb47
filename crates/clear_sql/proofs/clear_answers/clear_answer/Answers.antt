use Rattle.std.proofs.Common.{◌≡◌, All, subst, sym}
use Rattle.std.proofs.lemmas.Result.{IfOk-weaker}
use Rattle.query_reader.specs.Matching.{matching_rows}
use Rattle.clear_sql.specs.declared.answer.Answer.{Answer}
use Rattle.clear_sql.specs.AnswerText.{GroupFits}
use Rattle.clear_sql.specs.Meaning.{IsGroupOver}
use Rattle.clear_sql.specs.Clear.{clear}
use Rattle.clear_sql.proofs.MatchingCells.{clear_printable}
use Rattle.clear_sql.proofs.Meaning.{clear_means, rise-matching}
use Rattle.clear_sql.proofs.clear_answers.clear_answer.Goals as goal

pub returns-clause-printable : goal.returns-clause-printable
returns-clause-printable c =
    let columns = c.args.table.now.shape.schema.columns in
    let spec = c.args.checked.now.spec in
    IfOk-weaker c.answer_over.result (λ (answer : Answer). answer.groups ≡ clear columns spec (matching_rows c.args.checked.now c.args.params.now c.args.table.now)) (λ (answer : Answer). All (GroupFits columns spec) answer.groups)
    (λ answer e. subst (All (GroupFits columns spec)) (sym e) (clear_printable c.args.checked.now c.args.params.now c.args.table.now c.shape.ensures.valid c.requires.checked c.requires.sums))
    c.answer_over.ensures

pub returns-clause-meaning : goal.returns-clause-meaning
returns-clause-meaning c =
    let columns = c.args.table.now.shape.schema.columns in
    let spec = c.args.checked.now.spec in
    let rows = matching_rows c.args.checked.now c.args.params.now c.args.table.now in
    IfOk-weaker c.answer_over.result (λ (answer : Answer). answer.groups ≡ clear columns spec rows) (λ (answer : Answer). All (IsGroupOver columns spec rows) answer.groups)
    (λ answer e. subst (All (IsGroupOver columns spec rows)) (sym e) (clear_means columns spec rows (rise-matching c.args.checked.now c.args.params.now c.args.table.now)))
    c.answer_over.ensures
