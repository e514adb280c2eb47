-- How a step that a provider or a client refuses stops a command.
use Rattle.std.proofs.Common.{◌≡◌, ◌⊎◌, ℕ, List, Result, Err, sym, subst, ap, inl, inr}
use Rattle.spl_words.specs.declared.provider.Provider.{Provider}
use Rattle.spl_values.specs.Shapes.{ShapeParts}
use Rattle.provider_core.specs.declared.fault.ProviderFault.{ProviderFault}
use Rattle.provider_core.specs.declared.fault.ProviderFault.TheVariants as provider
use Rattle.client_rounds.specs.declared.faults.AskFault.{AskFault}
use Rattle.client_rounds.specs.declared.faults.AskFault.TheVariants as ask
use Rattle.command_words.specs.Orders.{CombineOrder}
use Rattle.splinter_status.specs.Phases.{InputGives}
use Rattle.splinter_status.specs.declared.stops.InputStop.{InputStop}
use Rattle.splinter_status.specs.declared.stops.InputStop.TheVariants as input
use Rattle.splinter_commands.specs.Refusals.{ask_refusal, or_ask_refusal, or_provider_refusal, provider_refusal, StopsBy}

pub provider_gives : {X Y : Type 0} (view : X → Y) (p : Provider) (key : List ℕ) (shape : ShapeParts) (f : ProviderFault) (step : Result Y ProviderFault) (s : InputStop)
    → (f ≡ provider.OutOfMemory) ⊎ (step ≡ Err f) → StopsBy (provider_refusal p key shape f) s → (f ≡ provider.OutOfMemory → s ≡ input.OutOfMemory)
    → InputGives view (Err s) (or_provider_refusal p key shape step)
provider_gives view p key shape f step s (inl short) by memory = subst (λ i. InputGives view (Err i) (or_provider_refusal p key shape step)) (sym (memory short)) tt
provider_gives view p key shape f step s (inr is) (inl short) memory = subst (λ i. InputGives view (Err i) (or_provider_refusal p key shape step)) (sym short) tt
provider_gives view p key shape f step s (inr is) (inr by) memory = subst (λ i. InputGives view (Err i) (or_provider_refusal p key shape step)) (sym by) (ap (or_provider_refusal p key shape) is)

pub ask_gives : {X Y : Type 0} (view : X → Y) (o : CombineOrder) (f : AskFault) (step : Result Y AskFault) (s : InputStop) → (f ≡ ask.OutOfMemory) ⊎ (step ≡ Err f) → StopsBy (ask_refusal o f) s
    → (f ≡ ask.OutOfMemory → s ≡ input.OutOfMemory) → InputGives view (Err s) (or_ask_refusal o step)
ask_gives view o f step s (inl short) by memory = subst (λ i. InputGives view (Err i) (or_ask_refusal o step)) (sym (memory short)) tt
ask_gives view o f step s (inr is) (inl short) memory = subst (λ i. InputGives view (Err i) (or_ask_refusal o step)) (sym short) tt
ask_gives view o f step s (inr is) (inr by) memory = subst (λ i. InputGives view (Err i) (or_ask_refusal o step)) (sym by) (ap (or_ask_refusal o) is)
