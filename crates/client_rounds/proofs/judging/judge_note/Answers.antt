use Rattle.std.proofs.Common.{sym, ap, ◌∙◌}
use Rattle.std.proofs.lemmas.Result.{err_from_is_err_and}
use Rattle.private_plan.specs.declared.plans.Plan.{Plan}
use Rattle.client_rounds.specs.Finishing.{if_built}
use Rattle.client_rounds.proofs.NoteSteps.{note_refused}
use Rattle.client_rounds.proofs.judging.judge_note.Goals as goal

pub returns-in_err-params-clause-gives : goal.returns-in_err-params-clause-gives
returns-in_err-params-clause-gives c =
    let p = err_from_is_err_and c.from_residual-in_err-params.result c.from_residual-in_err-params.ensures.1 in
    let built = sym (c.in_ok-check_built.ensures.is ∙ ap (λ (plan : Plan). if_built plan.kind) c.in_ok-plan.ensures) in
    rw (p.1, p.2) (note_refused c.args.bytes.now c.in_ok-note.note c.in_ok-checked.checked c.in_err-params.field-0.0 c.in_ok-note.ensures.gives c.in_ok-checked.ensures.gives built c.in_err-params.ensures.gives)
