-- What a query and its parameters ask of a table.
use Rattle.std.specs.Prelude.{◌≡◌, ℕ, List, Result, Ok, Err, if◌then◌else◌}
use Rattle.spl_words.specs.Results.{◌>>=◌}
use Rattle.spl_values.specs.Shapes.{ShapeParts}
use Rattle.query_parser.specs.declared.fault.QueryFault.{QueryFault}
use Rattle.query_reader.specs.Accepted.{IsCheckedFor}
use Rattle.query_reader.specs.Params.{AreParamsFor, params_of_words}
use Rattle.query_reader.specs.declared.checked.Checked.{Checked}
use Rattle.query_reader.specs.declared.params.ParamFault.{ParamFault}
use Rattle.judged_queries.specs.Queries.{checked_in}
use Rattle.private_plan.specs.declared.plans.PlanKind.{PlanKind}
use Rattle.private_plan.specs.Plans.{IsBuilt, is_built, plan_of}
use Rattle.splinter_status.specs.declared.stops.Refusal.{Refusal}
use Rattle.splinter_status.specs.declared.stops.Refusal.TheVariants as refusal
use Rattle.splinter_status.specs.declared.status.Part.TheVariants as part
use Rattle.splinter_steps.specs.declared.judging.Asked.{Asked}

-- what is known of an accepted query, or the refusal of a text that is none
abbrev pub or_query_refusal : Result Checked QueryFault → Result Checked Refusal
or_query_refusal (Ok checked) = Ok checked
or_query_refusal (Err fault) = Err (refusal.Query fault)

-- the refusal of a query whose plan isn't built
abbrev pub if_built : PlanKind → Result (Unit {0}) Refusal
if_built k = if is_built k then Ok tt else Err (refusal.NotBuilt part.Plan)

-- the codes of parameters, or the refusal of words that aren't their values
abbrev pub or_param_refusal : Result (List ℕ) ParamFault → Result (List ℕ) Refusal
or_param_refusal (Ok codes) = Ok codes
or_param_refusal (Err fault) = Err (refusal.Param fault)

-- what is asked of a table of that shape: a query that is accepted for it and built, and the codes of its parameters
unfoldable pub asked_in : ShapeParts → List ℕ → List (List ℕ) → Result Asked Refusal
asked_in shape text words = do
  checked ← or_query_refusal (checked_in shape.schema text)
  built ← if_built (plan_of checked shape).kind
  params ← or_param_refusal (params_of_words checked.query shape.schema words)
  Ok (record { checked = checked; params = params })

-- an accepted query whose plan is built, and its parameters, given as words
pub record IsAsked (shape : ShapeParts) (a : Asked) : Type 0 where
  pub checked : IsCheckedFor a.checked shape.schema
  pub built : IsBuilt a.checked shape.schema.columns
  pub params : AreParamsFor a.checked shape.schema a.params
  pub words : (words : List (List ℕ)) × (params_of_words a.checked.query shape.schema words ≡ Ok a.params)
