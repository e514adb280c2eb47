use Rattle.std.proofs.Common.{arith}
use Rattle.std.proofs.lemmas.Result.{err_from_is_err_and}
use Rattle.session_model.specs.Draws.{wide}
use Rattle.client_rounds.proofs.Drawing.{refused_second}
use Rattle.client_rounds.proofs.draws.draw_tree.Goals as goal

pub returns-in_err-one-clause-told : goal.returns-in_err-one-clause-told
returns-in_err-one-clause-told g c =
    let failed = err_from_is_err_and c.from_residual-in_err-one.result c.from_residual-in_err-one.ensures.1 in
    rw failed.1 (refused_second wide c.in_ok-zero.zero 2 2 4 _ _ _ (omega arith) c.in_ok-zero.ensures.told c.in_err-one.ensures.told)
