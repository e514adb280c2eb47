use Rattle.std.proofs.Common.{◌*◌, ◌+◌, arith}
use Rattle.std.proofs.lemmas.Result.{err_from_is_err_and}
use Rattle.session_model.specs.Draws.{wide}
use Rattle.client_rounds.proofs.Drawing.{refused_second}
use Rattle.client_rounds.proofs.draws.draw_session.Goals as goal

pub returns-in_err-roots-clause-told : goal.returns-in_err-roots-clause-told
returns-in_err-roots-clause-told g c =
    let failed = err_from_is_err_and c.from_residual.result c.from_residual.ensures.1 in
    rw failed.1 (refused_second wide c.in-Ok.session 2 (4 * c.args.count) (2 + 4 * c.args.count) _ _ _ (omega arith) c.in-Ok.ensures.told c.in_err-roots.ensures.told)
