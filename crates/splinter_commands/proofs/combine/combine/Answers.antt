use Rattle.std.proofs.Common.{Err, ap, ◌∙◌}
use Rattle.std.proofs.lemmas.Result.{err_from_is_err_and}
use Rattle.splinter_status.specs.declared.stops.Stopped.{Stopped}
use Rattle.command_words.specs.Views.{combine_order}
use Rattle.splinter_commands.specs.Commands.{combine_ready, combined}
use Rattle.splinter_commands.proofs.Drawless.{combined_came, combined_taken}
use Rattle.splinter_commands.proofs.Late.{early, meets}
use Rattle.splinter_commands.proofs.combine.combine.Goals as goal

pub returns-in_err-text-clause-told : goal.returns-in_err-text-clause-told
returns-in_err-text-clause-told g c = λ drawn.
    let failed = err_from_is_err_and c.from_residual.result c.from_residual.ensures.1 in
    early (λ text. combined text) (combine_ready (combine_order c.args.words.now)) _ _ drawn c.in_err-text.field-0.0 c.from_residual.result
    (failed.1 ∙ ap (λ (s : Stopped). Err s) failed.2) c.in_err-text.ensures.stays c.in_err-text.ensures.gives

pub returns-clause-told : goal.returns-clause-told
returns-clause-told g c = λ drawn.
    let result = c.in_ok-text.text in
    meets (combine_ready (combine_order c.args.words.now)) _ _ drawn drawn _ (combined result) c.in_ok-text.ensures.gives
    (combined_came result _ _ drawn c.into_vec.result c.in_ok-text.ensures.stays c.into_vec.ensures) (combined_taken result drawn)
