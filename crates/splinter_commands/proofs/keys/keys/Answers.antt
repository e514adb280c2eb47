use Rattle.std.proofs.Common.{Err, ap, ◌∙◌}
use Rattle.std.proofs.lemmas.Result.{err_from_is_err_and}
use Rattle.splinter_status.specs.declared.stops.Stopped.{Stopped}
use Rattle.splinter_status.specs.declared.stops.Stopped.TheVariants as stopped
use Rattle.command_words.specs.Views.{keys_order}
use Rattle.splinter_commands.specs.Commands.{asked, keys_ready}
use Rattle.splinter_commands.proofs.Begun.{asked_came, asked_drawn, asked_some, asked_taken, wrote}
use Rattle.splinter_commands.proofs.Late.{counts_drawing, counts_writing, drawing_ends, early, meets, takes_nothing, undrawn, unwritten, writing_ends}
use Rattle.splinter_commands.proofs.keys.keys.Goals as goal

pub returns-in_err-question-clause-told : goal.returns-in_err-question-clause-told
returns-in_err-question-clause-told g c =
    let failed = err_from_is_err_and c.from_residual.result c.from_residual.ensures.1 in
    early (λ q. asked (keys_order c.args.words.now) q) (keys_ready (keys_order c.args.words.now)) _ _ _ c.in_err-question.field-0.0 c.from_residual.result
    (failed.1 ∙ ap (λ (s : Stopped). Err s) failed.2) c.in_err-question.ensures.stays c.in_err-question.ensures.gives

pub returns-in_err-round-clause-told : goal.returns-in_err-round-clause-told
returns-in_err-round-clause-told g c =
    let failed = err_from_is_err_and c.from_residual-in_err-round.result c.from_residual-in_err-round.ensures.1 in
    let o = keys_order c.args.words.now in
    let q = c.in_ok-question.question in
    undrawn (keys_ready o) _ _ _ _ c.in_err-round.field-0.0 c.from_residual-in_err-round.result (asked o q)
    (failed.1 ∙ ap (λ (s : Stopped). Err s) failed.2) c.in_err-round.ensures.drawing c.in_ok-question.ensures.gives (asked_some o q _ _ c.in_err-round.ensures.told) c.in_ok-question.ensures.stays

pub returns-in_err-text-clause-told : goal.returns-in_err-text-clause-told
returns-in_err-text-clause-told g c =
    let failed = err_from_is_err_and c.from_residual-in_err-text.result c.from_residual-in_err-text.ensures.1 in
    let o = keys_order c.args.words.now in
    let q = c.in_ok-question.question in
    undrawn (keys_ready o) _ _ _ _ stopped.OutOfMemory c.from_residual-in_err-text.result (asked o q)
    (failed.1 ∙ ap (λ (s : Stopped). Err s) failed.2) tt c.in_ok-question.ensures.gives (asked_drawn o q c.in_ok-round.round _ _ c.in_ok-round.ensures.told) c.in_ok-question.ensures.stays

pub returns-in_err-text-clause-refusals : goal.returns-in_err-text-clause-refusals
returns-in_err-text-clause-refusals g c =
    let failed = err_from_is_err_and c.from_residual-in_err-text.result c.from_residual-in_err-text.ensures.1 in
    drawing_ends stopped.OutOfMemory _ (failed.1 ∙ ap (λ (s : Stopped). Err s) failed.2) tt

pub returns-in_err-write_round-clause-told : goal.returns-in_err-write_round-clause-told
returns-in_err-write_round-clause-told g c =
    let failed = err_from_is_err_and c.from_residual-in_err-write_round.result c.from_residual-in_err-write_round.ensures.1 in
    let o = keys_order c.args.words.now in
    let q = c.in_ok-question.question in
    let round = c.in_ok-round.round in
    unwritten (keys_ready o) _ _ _ _ c.in_err-write_round.field-0.0 c.from_residual-in_err-write_round.result (asked o q)
    (failed.1 ∙ ap (λ (s : Stopped). Err s) failed.2) c.in_err-write_round.ensures.late c.in_ok-question.ensures.gives (asked_taken o q round _ _ c.in_ok-round.ensures.told)
    (wrote o q round _ _ _ _ _ (Err c.in_err-write_round.field-0.0) c.in_ok-question.ensures.stays c.in_ok-round.ensures.told c.in_ok-round.ensures.round c.in_err-write_round.ensures.puts)

pub returns-in_err-write_round-clause-refusals : goal.returns-in_err-write_round-clause-refusals
returns-in_err-write_round-clause-refusals g c =
    let failed = err_from_is_err_and c.from_residual-in_err-write_round.result c.from_residual-in_err-write_round.ensures.1 in
    writing_ends c.in_err-write_round.field-0.0 _ (failed.1 ∙ ap (λ (s : Stopped). Err s) failed.2) c.in_err-write_round.ensures.late

pub returns-clause-told : goal.returns-clause-told
returns-clause-told g c =
    let o = keys_order c.args.words.now in
    let q = c.in_ok-question.question in
    let round = c.in_ok-round.round in
    meets (keys_ready o) _ _ _ _ _ (asked o q) c.in_ok-question.ensures.gives
    (asked_came o q round _ _ _ _ _ c.in_ok-text.text c.in_ok-question.ensures.stays c.in_ok-round.ensures.told c.in_ok-round.ensures.round c.in_ok-text.ensures c.in_ok-write_round.ensures.puts)
    (asked_taken o q round _ _ c.in_ok-round.ensures.told)

pub returns-in_err-question-clause-front : goal.returns-in_err-question-clause-front
returns-in_err-question-clause-front g c = takes_nothing _

pub returns-in_err-text-clause-files : goal.returns-in_err-text-clause-files
returns-in_err-text-clause-files g c =
    let failed = err_from_is_err_and c.from_residual-in_err-text.result c.from_residual-in_err-text.ensures.1 in
    counts_drawing _ _ _ stopped.OutOfMemory _ (failed.1 ∙ ap (λ (s : Stopped). Err s) failed.2) tt (λ e. cc) c.in_ok-question.ensures.counts

pub returns-in_err-write_round-clause-files : goal.returns-in_err-write_round-clause-files
returns-in_err-write_round-clause-files g c =
    let failed = err_from_is_err_and c.from_residual-in_err-write_round.result c.from_residual-in_err-write_round.ensures.1 in
    counts_writing _ _ _ _ _ c.in_err-write_round.field-0.0 _ (failed.1 ∙ ap (λ (s : Stopped). Err s) failed.2) c.in_err-write_round.ensures.late (λ e. cc) (λ e. cc) (λ e. cc)
    c.in_ok-question.ensures.counts c.in_err-write_round.ensures.counts
