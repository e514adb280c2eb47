use Rattle.std.proofs.lemmas.Result.{err_from_is_err_and}
use Rattle.client_rounds.proofs.Drawing.{refused_word}
use Rattle.client_rounds.proofs.draws.draw_wide.Goals as goal

pub returns-in_err-low-clause-told : goal.returns-in_err-low-clause-told
returns-in_err-low-clause-told g c =
    let failed = err_from_is_err_and c.from_residual-in_err-low.result c.from_residual-in_err-low.ensures.1 in
    rw failed.1 (refused_word c.in_ok-high.high _ _ _ c.in_ok-high.ensures.content c.in_err-low.ensures.content)
