-- What the refusals of a provider and of a client are for a command.
use Rattle.std.specs.Prelude.{◌≡◌, ◌⊎◌, ℕ, List, Result, Ok, Err}
use Rattle.spl_words.specs.declared.differ.Differ.TheVariants as differ
use Rattle.spl_words.specs.declared.provider.Provider.{Provider}
use Rattle.spl_values.specs.Shapes.{ShapeParts}
use Rattle.clear_sql.specs.AnswerText.{name_in}
use Rattle.provider_core.specs.declared.fault.ProviderFault.{ProviderFault}
use Rattle.provider_core.specs.declared.fault.ProviderFault.TheVariants as provider
use Rattle.client_rounds.specs.declared.faults.AskFault.{AskFault}
use Rattle.client_rounds.specs.declared.faults.AskFault.TheVariants as ask
use Rattle.client_rounds.specs.declared.faults.Source.{Source}
use Rattle.client_rounds.specs.declared.faults.Source.TheVariants as source
use Rattle.command_words.specs.Orders.{CombineOrder}
use Rattle.splinter_status.specs.declared.status.Part.TheVariants as part
use Rattle.splinter_status.specs.declared.stops.InputStop.{InputStop}
use Rattle.splinter_status.specs.declared.stops.InputStop.TheVariants as input
use Rattle.splinter_status.specs.declared.stops.Refusal.{Refusal}
use Rattle.splinter_status.specs.declared.stops.Refusal.TheVariants as refusal

-- of a provider, to a key file of that name, over a table of that shape; a step is never short of memory
abbrev pub provider_refusal : Provider → List ℕ → ShapeParts → ProviderFault → Refusal
provider_refusal p key shape (provider.Frame f) = refusal.Frame key f
provider_refusal p key shape (provider.WrongProvider q) = refusal.Differ (differ.Provider p q)
provider_refusal p key shape (provider.ShapeDiffers line) = refusal.Differ (differ.ShapeLine line)
provider_refusal p key shape (provider.Query f) = refusal.Query f
provider_refusal p key shape (provider.WrongLayout i) = refusal.Differ (differ.Layout i)
provider_refusal p key shape (provider.SumBound c at) = refusal.SumBound (name_in shape.schema.columns c) c at
provider_refusal p key shape provider.OutOfMemory = refusal.Usage

-- the value, or that refusal
abbrev pub or_provider_refusal : {A : Type 0} → Provider → List ℕ → ShapeParts → Result A ProviderFault → Result A Refusal
or_provider_refusal p key shape (Ok x) = Ok x
or_provider_refusal p key shape (Err f) = Err (provider_refusal p key shape f)

-- the name of a file that is judged
abbrev pub name_of : CombineOrder → Source → List ℕ
name_of o source.Note = o.note
name_of o source.First = o.first
name_of o source.Second = o.second

-- of a client that judges these files; a step draws nothing and is never short of memory
abbrev pub ask_refusal : CombineOrder → AskFault → Refusal
ask_refusal o (ask.Query f) = refusal.Query f
ask_refusal o (ask.Param f) = refusal.Param f
ask_refusal o (ask.Frame s f) = refusal.Frame (name_of o s) f
ask_refusal o (ask.SameProvider p) = refusal.SameProvider p
ask_refusal o (ask.Differ d) = refusal.Differ d
ask_refusal o (ask.BadWord i word) = refusal.BadWord i word
ask_refusal o (ask.NotBuilt k) = refusal.NotBuilt part.Plan
ask_refusal o ask.DrawFault = refusal.Usage
ask_refusal o ask.OutOfMemory = refusal.Usage

-- the value, or that refusal
abbrev pub or_ask_refusal : {A : Type 0} → CombineOrder → Result A AskFault → Result A Refusal
or_ask_refusal o (Ok x) = Ok x
or_ask_refusal o (Err f) = Err (ask_refusal o f)

-- the stop is that refusal, unless memory was short
abbrev pub StopsBy : Refusal → InputStop → Type 0
StopsBy r s = (s ≡ input.OutOfMemory) ⊎ (s ≡ input.Refused r)
