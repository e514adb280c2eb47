use Rattle.std.proofs.Common.{Err, ap, ◌∙◌}
use Rattle.std.proofs.lemmas.Result.{err_from_is_err_and}
use Rattle.splinter_status.specs.declared.stops.Stopped.{Stopped}
use Rattle.splinter_status.specs.declared.stops.Stopped.TheVariants as stopped
use Rattle.command_words.specs.Views.{trace_order}
use Rattle.splinter_commands.specs.Commands.{traced, trace_ready}
use Rattle.splinter_commands.proofs.Begun.{traced_came, traced_drawn, traced_some, traced_taken}
use Rattle.splinter_commands.proofs.Late.{counts_drawing, drawing_ends, early, meets, takes_front, takes_nothing, undrawn}
use Rattle.splinter_commands.proofs.trace.trace.Goals as goal

pub returns-in_err-traced-clause-told : goal.returns-in_err-traced-clause-told
returns-in_err-traced-clause-told g c =
    let failed = err_from_is_err_and c.from_residual.result c.from_residual.ensures.1 in
    early (λ t. traced t) (trace_ready (trace_order c.args.words.now)) _ _ _ c.in_err-traced.field-0.0 c.from_residual.result
    (failed.1 ∙ ap (λ (s : Stopped). Err s) failed.2) c.in_err-traced.ensures.stays c.in_err-traced.ensures.gives

pub returns-in_err-round-clause-told : goal.returns-in_err-round-clause-told
returns-in_err-round-clause-told g c =
    let failed = err_from_is_err_and c.from_residual-in_err-round.result c.from_residual-in_err-round.ensures.1 in
    let t = c.in_ok-traced.traced in
    let drawn = rw c.shape.ensures.shape at c.in_err-round.ensures.told in
    undrawn (trace_ready (trace_order c.args.words.now)) _ _ _ _ c.in_err-round.field-0.0 c.from_residual-in_err-round.result (traced t)
    (failed.1 ∙ ap (λ (s : Stopped). Err s) failed.2) c.in_err-round.ensures.drawing c.in_ok-traced.ensures.gives (traced_some t _ _ drawn) c.in_ok-traced.ensures.stays

pub returns-in_err-session_text-clause-told : goal.returns-in_err-session_text-clause-told
returns-in_err-session_text-clause-told g c =
    let failed = err_from_is_err_and c.from_residual-in_err-session_text.result c.from_residual-in_err-session_text.ensures.1 in
    let t = c.in_ok-traced.traced in
    let told = rw c.shape.ensures.shape at c.in_ok-round.ensures.told in
    undrawn (trace_ready (trace_order c.args.words.now)) _ _ _ _ stopped.OutOfMemory c.from_residual-in_err-session_text.result (traced t)
    (failed.1 ∙ ap (λ (s : Stopped). Err s) failed.2) tt c.in_ok-traced.ensures.gives (traced_drawn t c.in_ok-round.round _ _ told) c.in_ok-traced.ensures.stays

pub returns-in_err-session_text-clause-refusals : goal.returns-in_err-session_text-clause-refusals
returns-in_err-session_text-clause-refusals g c =
    let failed = err_from_is_err_and c.from_residual-in_err-session_text.result c.from_residual-in_err-session_text.ensures.1 in
    drawing_ends stopped.OutOfMemory _ (failed.1 ∙ ap (λ (s : Stopped). Err s) failed.2) tt

pub returns-clause-told : goal.returns-clause-told
returns-clause-told g c =
    let t = c.in_ok-traced.traced in
    let told = rw c.shape.ensures.shape at c.in_ok-round.ensures.told in
    let of = rw c.shape.ensures.shape at c.in_ok-round.ensures.round in
    meets (trace_ready (trace_order c.args.words.now)) _ _ _ _ _ (traced t) c.in_ok-traced.ensures.gives
    (traced_came t c.in_ok-round.round _ _ _ _ c.in_ok-session_text.field-0 c.in_ok-traced.ensures.stays told of c.in_ok-session_text.ensures) (traced_taken t c.in_ok-round.round _ _ told)

pub returns-in_err-traced-clause-front : goal.returns-in_err-traced-clause-front
returns-in_err-traced-clause-front g c = takes_nothing _

pub returns-in_err-session_text-clause-files : goal.returns-in_err-session_text-clause-files
returns-in_err-session_text-clause-files g c =
    let failed = err_from_is_err_and c.from_residual-in_err-session_text.result c.from_residual-in_err-session_text.ensures.1 in
    counts_drawing _ _ _ stopped.OutOfMemory _ (failed.1 ∙ ap (λ (s : Stopped). Err s) failed.2) tt (λ e. cc) c.in_ok-traced.ensures.counts

pub returns-clause-front : goal.returns-clause-front
returns-clause-front g c =
    let t = c.in_ok-traced.traced in
    let told = rw c.shape.ensures.shape at c.in_ok-round.ensures.told in
    takes_front (traced t).draws _ _ (traced_taken t c.in_ok-round.round _ _ told)
