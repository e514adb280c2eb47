use Rattle.std.proofs.Common.{[], ◌∷◌, Err, ap, ◌∙◌}
use Rattle.std.proofs.lemmas.Result.{err_from_is_err_and}
use Rattle.splinter_status.specs.declared.stops.Stopped.{Stopped}
use Rattle.splinter_steps.specs.Outputs.{output}
use Rattle.splinter_steps.proofs.Puts.{puts_then, puts_first, but_then, but_first}
use Rattle.splinter_steps.proofs.writing.write_three.Goals as goal

pub returns-in_err-write_file-clause-puts : goal.returns-in_err-write_file-clause-puts
returns-in_err-write_file-clause-puts g c =
    let failed = err_from_is_err_and c.from_residual.result c.from_residual.ensures.1 in
    puts_first _ _ (output c.args.first.now) (output c.args.second.now ∷ output c.args.third.now ∷ []) c.in_err-write_file.field-0.0 c.from_residual.result (failed.1 ∙ ap (λ (s : Stopped). Err s) failed.2) c.in_err-write_file.ensures.puts

pub returns-in_err-write_file-clause-others : goal.returns-in_err-write_file-clause-others
returns-in_err-write_file-clause-others g c = but_first _ _ c.args.first.now.name.now (c.args.second.now.name.now ∷ c.args.third.now.name.now ∷ []) c.in_err-write_file.ensures.others

pub returns-in_err-write_file-2-clause-puts : goal.returns-in_err-write_file-2-clause-puts
returns-in_err-write_file-2-clause-puts g c =
    let failed = err_from_is_err_and c.from_residual-in_err-write_file-2.result c.from_residual-in_err-write_file-2.ensures.1 in
    puts_then _ _ _ (output c.args.first.now) (output c.args.second.now ∷ output c.args.third.now ∷ []) c.from_residual-in_err-write_file-2.result c.in_ok-write_file.ensures.puts
    (puts_first _ _ (output c.args.second.now) (output c.args.third.now ∷ []) c.in_err-write_file-2.field-0.0 c.from_residual-in_err-write_file-2.result (failed.1 ∙ ap (λ (s : Stopped). Err s) failed.2) c.in_err-write_file-2.ensures.puts)

pub returns-in_err-write_file-2-clause-others : goal.returns-in_err-write_file-2-clause-others
returns-in_err-write_file-2-clause-others g c = but_then _ _ _ c.args.first.now.name.now (c.args.second.now.name.now ∷ c.args.third.now.name.now ∷ []) c.in_ok-write_file.ensures.others (but_first _ _ c.args.second.now.name.now (c.args.third.now.name.now ∷ []) c.in_err-write_file-2.ensures.others)

pub returns-clause-puts : goal.returns-clause-puts
returns-clause-puts g c =
    puts_then _ _ _ (output c.args.first.now) (output c.args.second.now ∷ output c.args.third.now ∷ []) c.write_file-3.result c.in_ok-write_file.ensures.puts
    (puts_then _ _ _ (output c.args.second.now) (output c.args.third.now ∷ []) c.write_file-3.result c.in_ok-write_file-2.ensures.puts c.write_file-3.ensures.puts)

pub returns-clause-others : goal.returns-clause-others
returns-clause-others g c = but_then _ _ _ c.args.first.now.name.now (c.args.second.now.name.now ∷ c.args.third.now.name.now ∷ []) c.in_ok-write_file.ensures.others (but_then _ _ _ c.args.second.now.name.now (c.args.third.now.name.now ∷ []) c.in_ok-write_file-2.ensures.others c.write_file-3.ensures.others)
