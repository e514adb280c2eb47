use Rattle.query_printer.proofs.Either.{several, if_ok}
use Rattle.query_printer.proofs.printer.put_branches.Goals as goal

pub returns-in_ok-put_either-in-len2-up : goal.returns-in_ok-put_either-in-len2-up
returns-in_ok-put_either-in-len2-up c =
    let s = several c.args.first c.args.printer.now c.args.branches.now c.in-len2-up.len_at_least in
    let a = c.in_ok-put_lead-in-len2-up.ensures in
    let b = c.in_ok-symbol-in-len2-up.ensures in
    let d = c.in_ok-put_either-in-len2-up.ensures in
    if_ok c.symbol-in-len2-up.result _ _ _ c.symbol-in-len2-up.ensures (cc)
