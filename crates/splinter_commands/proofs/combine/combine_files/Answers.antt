use Rattle.std.proofs.Common.{Err, ap, ◌∙◌}
use Rattle.std.proofs.lemmas.Result.{err_from_is_err_and}
use Rattle.splinter_status.specs.declared.stops.InputStop.{InputStop}
use Rattle.command_words.specs.Views.{combine_order}
use Rattle.splinter_commands.proofs.Late.{counts_next}
use Rattle.splinter_commands.proofs.Combined.{at_first, at_second, at_end}
use Rattle.splinter_commands.proofs.combine.combine_files.Goals as goal

pub returns-in_err-first-clause-gives : goal.returns-in_err-first-clause-gives
returns-in_err-first-clause-gives g c =
    let failed = err_from_is_err_and c.from_residual-in_err-first.result c.from_residual-in_err-first.ensures.1 in
    at_first (combine_order c.args.words.now) _ _ c.in_ok-judged.judged c.in_err-first.field-0.0 c.from_residual-in_err-first.result (failed.1 ∙ ap (λ (s : InputStop). Err s) failed.2)
    c.in_ok-judged.ensures.gives c.in_ok-judged.ensures.stays c.in_err-first.ensures.gives

pub returns-in_err-second-clause-gives : goal.returns-in_err-second-clause-gives
returns-in_err-second-clause-gives g c =
    let failed = err_from_is_err_and c.from_residual-in_err-second.result c.from_residual-in_err-second.ensures.1 in
    at_second (combine_order c.args.words.now) _ _ _ c.in_ok-judged.judged c.in_ok-first.first c.in_err-second.field-0.0 c.from_residual-in_err-second.result (failed.1 ∙ ap (λ (s : InputStop). Err s) failed.2)
    c.in_ok-judged.ensures.gives c.in_ok-judged.ensures.stays c.in_ok-first.ensures.gives c.in_ok-first.ensures.stays c.in_err-second.ensures.gives

pub returns-clause-gives : goal.returns-clause-gives
returns-clause-gives g c =
    at_end (combine_order c.args.words.now) _ _ _ c.in_ok-judged.judged c.in_ok-first.first c.in_ok-second.second c.combined_text.result
    c.in_ok-judged.ensures.gives c.in_ok-judged.ensures.stays c.in_ok-first.ensures.gives c.in_ok-first.ensures.stays c.in_ok-second.ensures.gives c.combined_text.ensures.gives

pub returns-in_err-first-clause-counts : goal.returns-in_err-first-clause-counts
returns-in_err-first-clause-counts g c =
    let failed = err_from_is_err_and c.from_residual-in_err-first.result c.from_residual-in_err-first.ensures.1 in
    let is = failed.1 ∙ ap (λ (s : InputStop). Err s) failed.2 in
    counts_next _ _ _ _ _ _ (λ e. cc) (λ e. cc) (λ e. cc) c.in_ok-judged.ensures.counts c.in_err-first.ensures.counts

pub returns-in_err-second-clause-counts : goal.returns-in_err-second-clause-counts
returns-in_err-second-clause-counts g c =
    let failed = err_from_is_err_and c.from_residual-in_err-second.result c.from_residual-in_err-second.ensures.1 in
    let is = failed.1 ∙ ap (λ (s : InputStop). Err s) failed.2 in
    counts_next _ _ _ _ _ _ (λ e. cc) (λ e. e) (λ e. e) c.in_ok-judged.ensures.counts
    (counts_next _ _ _ _ _ _ (λ e. cc) (λ e. cc) (λ e. cc) c.in_ok-first.ensures.counts c.in_err-second.ensures.counts)
