use Rattle.std.proofs.Common.{arith}
use Rattle.std.proofs.lemmas.Grind.{common_steps}
use Rattle.query_tokens.proofs.Scan.{skips, keeps}
use Rattle.query_tokens.proofs.lexer.undoubled.Goals as goal
use Rattle.query_tokens.proofs.lexer.undoubled.Goals.{then-second, else-second+in_ok-push}

pub loop-b-preserved : goal.loop-b-preserved
loop-b-preserved c =
    let s = skips c.args.bytes.now c.loop-b.b-index c.loop-b-test.true in
    let k = keeps c.args.bytes.now c.loop-b.b-index c.loop-b-test.true in
    elim c.if-second.branch [ then-second w ↦ grind (arith, common_steps) | else-second+in_ok-push w ↦ grind (arith, common_steps) ]
