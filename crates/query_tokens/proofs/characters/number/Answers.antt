use Rattle.std.proofs.Common.{◌+◌, ◌-◌, ◌*◌, drop, get_or, sym, ◌∙◌, ap, arith}
use Rattle.query_tokens.specs.Lexing.{below_end}
use Rattle.query_tokens.proofs.Digits.{too_large, decimal_next, at_end}
use Rattle.query_tokens.proofs.characters.number.Goals as goal

pub returns-in_err-checked_mul : goal.returns-in_err-checked_mul
returns-in_err-checked_mul c =
    let e = sym c.loop-d.invariant.0 ∙ decimal_next c.loop-d.n c.args.digits.now c.loop-d.d-index c.loop-d-test.true in
    let big = c.in_err-checked_mul.ensures in
    rw c.from_residual.ensures (too_large (c.loop-d.n * 10 + (get_or c.args.digits.now c.loop-d.d-index 0 - 48)) (drop (c.loop-d.d-index + 1) c.args.digits.now) (omega arith) ∙ ap below_end (sym e))

pub returns-in_err-n : goal.returns-in_err-n
returns-in_err-n c =
    let e = sym c.loop-d.invariant.0 ∙ decimal_next c.loop-d.n c.args.digits.now c.loop-d.d-index c.loop-d-test.true in
    let big = c.in_err-n.ensures in
    let m = c.in_ok-checked_mul.ensures in
    let f = c.from-digit.ensures in
    rw c.from_residual-in_err-n.ensures (too_large (c.loop-d.n * 10 + (get_or c.args.digits.now c.loop-d.d-index 0 - 48)) (drop (c.loop-d.d-index + 1) c.args.digits.now) (omega arith) ∙ ap below_end (sym e))

pub returns : goal.returns
returns c = at_end c.loop-d.n _ c.args.digits.now c.loop-d.d-index (omega arith) c.loop-d.invariant.1 c.loop-d.invariant.0
