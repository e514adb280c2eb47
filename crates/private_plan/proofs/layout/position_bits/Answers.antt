use Rattle.std.proofs.Common.{◌≡◌, ◌^◌, ◌<◌, ◌≤◌, ap, sym, ◌∙◌, arith}
use Rattle.std.specs.Prelude.{unwrap_or}
use Rattle.private_plan.proofs.Loops.{passed_over, found, last_one}
use Rattle.private_plan.proofs.layout.position_bits.Goals as goal

pub loop-bits-preserved : goal.loop-bits-preserved
loop-bits-preserved c =
    let few : 2 ^ c.loop-bits.bits < c.args.rows = omega (arith, c.if-rows-pow.false, c.pow.ensures) in
    let here : c.loop-bits.bits < 19 = omega (arith, c.loop-bits-test.true) in
    (omega (arith, c.loop-bits-test.true), ap (λ f. unwrap_or f 18) (sym (passed_over c.args.rows c.loop-bits.bits 19 here few)) ∙ c.loop-bits.invariant.1)

pub returns-then-rows-pow : goal.returns-then-rows-pow
returns-then-rows-pow c =
    let enough : c.args.rows ≤ 2 ^ c.loop-bits.bits = omega (arith, c.if-rows-pow.true, c.pow.ensures) in
    let here : c.loop-bits.bits < 19 = omega (arith, c.loop-bits-test.true) in
    sym (ap (λ f. unwrap_or f 18) (found c.args.rows c.loop-bits.bits 19 here enough)) ∙ c.loop-bits.invariant.1

pub returns : goal.returns
returns c =
    let at : c.loop-bits.bits ≡ 18 = omega (arith, c.loop-bits-test.false, c.loop-bits.invariant.0) in
    sym (last_one c.args.rows c.loop-bits.bits at) ∙ c.loop-bits.invariant.1
