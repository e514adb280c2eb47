-- What `trace` reads, up to the bounds of its sums.
use Rattle.std.proofs.Common.{◌≡◌, [], Option, Some, None, Result, Ok, Err, refl, subst}
use Rattle.std.specs.Prelude.{IfSome}
use Rattle.spl_outside.specs.Content.{FileMap}
use Rattle.spl_words.specs.Results.{◌>>=◌}
use Rattle.spl_words.specs.declared.provider.Provider.TheVariants.{Zero}
use Rattle.spl_values.specs.Shapes.{ShapeParts}
use Rattle.spl_values.specs.Tables.{TableParts}
use Rattle.provider_core.specs.Asking.{or_sum_fault}
use Rattle.sum_bounds.specs.Bounds.{sums_bounded}
use Rattle.command_words.specs.Orders.{TraceOrder}
use Rattle.splinter_status.specs.Phases.{InputGives}
use Rattle.splinter_status.specs.declared.stops.InputStop.{InputStop}
use Rattle.splinter_status.specs.declared.stops.InputStop.TheVariants as input
use Rattle.splinter_status.specs.declared.stops.Refusal.{Refusal}
use Rattle.splinter_steps.specs.Reads.{shape_in, table_in}
use Rattle.splinter_steps.specs.Questions.{asked_in}
use Rattle.splinter_steps.specs.declared.judging.Asked.{Asked}
use Rattle.splinter_commands.specs.declared.trace.Traced.{Traced}
use Rattle.splinter_commands.specs.Effects.{Effect}
use Rattle.splinter_commands.specs.Commands.{trace_ready, traced}
use Rattle.splinter_commands.specs.Refusals.{or_provider_refusal}

stop_in : (step : Result (Unit {0}) Refusal) (next : Unit {0} → Result Effect Refusal) (s : InputStop) → InputGives {X = Unit {0}} {Y = Unit {0}} (λ x. x) (Err s) step → InputGives {X = Traced} {Y = Effect} (λ t. traced t) (Err s) (step >>= next)
stop_in step next (input.Refused r) gives = rw gives refl
stop_in step next input.FileFault gives = tt
stop_in step next input.OutOfMemory gives = tt

-- a sum is over its bound
pub over_bound : (o : TraceOrder) (files mid : Option FileMap) (shape : ShapeParts) (a : Asked) (table : TableParts) (s : InputStop) (r : Result Traced InputStop) → r ≡ Err s → IfSome files (λ m. shape_in m o.shape ≡ Ok shape)
    → mid ≡ files → asked_in shape o.query o.parameters ≡ Ok a → IfSome mid (λ m. table_in m o.table shape ≡ Ok table)
    → InputGives {X = Unit {0}} {Y = Unit {0}} (λ x. x) (Err s) (or_provider_refusal Zero [] table.shape (or_sum_fault (sums_bounded table a.checked.spec.items))) → IfSome files (λ m. InputGives {X = Traced} {Y = Effect} (λ t. traced t) r (trace_ready o m))
unfolding trace_ready
over_bound o None mid shape a table s r is found same judged read gives = tt
over_bound o (Some m) mid shape a table s r is found same judged read gives =
    let rows = subst (λ k. IfSome k (λ n. table_in n o.table shape ≡ Ok table)) same read in
    rw (is, found, judged, rows) (stop_in (or_provider_refusal Zero [] table.shape (or_sum_fault (sums_bounded table a.checked.spec.items))) _ s gives)
