use Rattle.std.proofs.Common.{Err, subst}
use Rattle.std.proofs.lemmas.Result.{err_from_is_err_and}
use Rattle.query_reader.specs.Params.{Answers}
use Rattle.judged_queries.specs.Codes.{codes_in}
use Rattle.key_frames.specs.declared.note.Note.{Note}
use Rattle.client_rounds.proofs.NoteSteps.{codes_refused}
use Rattle.client_rounds.proofs.judging.params_of.Goals as goal

pub returns-in_err-judge_codes-clause-gives : goal.returns-in_err-judge_codes-clause-gives
returns-in_err-judge_codes-clause-gives c =
    let p = err_from_is_err_and c.from_residual.result c.from_residual.ensures.1 in
    let fault = c.in_err-judge_codes.field-0.0 in
    rw p.1 (codes_refused fault p.0 _ p.2
    (subst (λ (n : Note). Answers (Err fault) (codes_in c.args.checked.now.query n.shape.schema n.params)) c.note.view_is (rw c.as_slice.ensures at c.in_err-judge_codes.ensures.gives)))
