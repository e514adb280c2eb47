-- What parameters that were taken are.
use Rattle.std.proofs.Common.{◌≡◌, ℕ, List, Result, Ok, Err, ap}
use Rattle.std.specs.Prelude.{IsErrOf}
use Rattle.query_reader.specs.Params.{Answers}
use Rattle.query_reader.specs.declared.params.ParamFault.{ParamFault}
use Rattle.query_reader.specs.declared.params.ParamFault.TheVariants as param
use Rattle.splinter_status.specs.Phases.{InputGives, StopsAtFiles}
use Rattle.splinter_status.specs.declared.stops.InputStop.{InputStop}
use Rattle.splinter_status.specs.declared.stops.InputStop.TheVariants as input
use Rattle.splinter_steps.specs.Stops.{stop_of_params}
use Rattle.splinter_steps.specs.Questions.{or_param_refusal}

-- codes that aren't refused are those that were read
pub taken : (step : Result (List ℕ) ParamFault) (codes : List ℕ) → or_param_refusal step ≡ Ok codes → step ≡ Ok codes
taken (Ok cs) codes e = let same : cs ≡ codes = cc in cc
taken (Err f) codes e = cc

-- the stop is what the step gives, refuses what files hold alone, and is no fault of the files
abbrev pub Stopping : InputStop → Result (List ℕ) ParamFault → Type 0
Stopping s step = InputGives {X = List ℕ} (λ codes. codes) (Err s) (or_param_refusal step) × StopsAtFiles s × (IsErrOf {T = List ℕ} (Err s) input.FileFault → ⊥)

-- parameters that aren't taken stop the command so
pub stopping : (e : ParamFault) (step : Result (List ℕ) ParamFault) → Answers (Err e) step → Stopping (stop_of_params e) step
stopping (param.Count n h) step is = (ap or_param_refusal is, tt, λ e. cc)
stopping (param.Value i f) step is = (ap or_param_refusal is, tt, λ e. cc)
stopping (param.BadCode i) step is = (ap or_param_refusal is, tt, λ e. cc)
stopping param.OutOfMemory step is = (tt, tt, λ e. cc)
