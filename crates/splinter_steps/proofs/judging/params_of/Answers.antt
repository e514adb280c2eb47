use Rattle.std.proofs.Common.{sym, subst, map, Err}
use Rattle.std.specs.String.{string_bytes}
use Rattle.spl_values.specs.Shapes.{ShapeParts}
use Rattle.query_reader.specs.Params.{Answers, params_of_words}
use Rattle.splinter_steps.proofs.Refused.{Stopping, stopping}
use Rattle.splinter_steps.proofs.judging.params_of.Goals as goal

pub returns-in-Err : goal.returns-in-Err
returns-in-Err c =
    let step = params_of_words c.args.checked.now.query c.args.shape.now.schema (map string_bytes c.args.words.now) in
    let gives : Answers (Err c.in-Err.fault) step =
    subst (λ (s : ShapeParts). Answers (Err c.in-Err.fault) (params_of_words c.args.checked.now.query s.schema (map string_bytes c.args.words.now))) c.shape.view_is c.in-Err.ensures.gives in
    let all = subst (λ s. Stopping s step) (sym c.param_stop.ensures) (stopping c.in-Err.fault step gives) in
    record { gives = all.0; known = tt; refusals = all.1; no_fault = all.2 }
