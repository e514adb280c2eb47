use Rattle.std.proofs.Common.{Err, sym, subst, ap, ◌∙◌}
use Rattle.std.proofs.lemmas.Result.{err_from_is_err_and}
use Rattle.command_words.specs.Views.{trace_order}
use Rattle.splinter_status.specs.declared.stops.InputStop.{InputStop}
use Rattle.splinter_steps.specs.Questions.{IsAsked}
use Rattle.splinter_commands.proofs.Bounded.{over_bound}
use Rattle.splinter_commands.proofs.trace.read_traced.Goals as goal

pub returns-in_err-check_bounds-clause-gives : goal.returns-in_err-check_bounds-clause-gives
returns-in_err-check_bounds-clause-gives g c =
    let failed = err_from_is_err_and c.from_residual-in_err-check_bounds.result c.from_residual-in_err-check_bounds.ensures.1 in
    let judged = rw c.deref.ensures.value at c.in_ok-asked.ensures.gives in
    over_bound (trace_order c.args.words.now) _ _ c.in_ok-shape.shape c.in_ok-asked.asked c.in_ok-table.table c.in_err-check_bounds.field-0.0 c.from_residual-in_err-check_bounds.result (failed.1 ∙ ap (λ (s : InputStop). Err s) failed.2)
    c.in_ok-shape.ensures.gives c.in_ok-shape.ensures.stays judged c.in_ok-table.ensures.gives c.in_err-check_bounds.ensures.gives

pub returns-clause-traced : goal.returns-clause-traced
returns-clause-traced g c = record {
  asked = subst (λ s. IsAsked s c.in_ok-asked.asked) (sym c.in_ok-table.ensures.shape) c.in_ok-asked.ensures.asked;
  bounded = c.in_ok-check_bounds.ensures.bounded;
}
