use Rattle.std.proofs.Common.{◌+◌, arith, sym, subst}
use Rattle.provider_core.proofs.ShapeLines.{IsLine, begins, next_line, same_line, line_is, line_below, stops, ended}
use Rattle.provider_core.proofs.shapes.first_line.Goals as goal
use Rattle.provider_core.proofs.shapes.first_line.Goals.{then-byte-eq10, else-byte-eq10}

pub loop-place-init : goal.loop-place-init
loop-place-init c = begins c.args.a.now c.args.b.now

pub returns-then-not-has_byte : goal.returns-then-not-has_byte
returns-then-not-has_byte c =
    line_is c.args.a.now c.args.b.now c.loop-place.place c.loop-place.line c.loop-place.invariant
    (stops c.args.a.now c.args.b.now c.loop-place.place c.loop-place-test.true (λ here. absurd (let yes = c.has_byte.ensures.1 here in cc)))

pub overflow_add-line : goal.overflow_add-line
overflow_add-line c =
    let below = line_below c.args.a.now c.args.b.now c.loop-place.place c.loop-place.line c.loop-place.invariant in
    omega (arith, below, c.requires)

pub loop-place-preserved : goal.loop-place-preserved
loop-place-preserved c =
    let a = c.args.a.now in
    let b = c.args.b.now in
    let i = c.loop-place.place in
    let here = c.has_byte.ensures.0 c.if-not-has_byte.false in
    elim c.if-byte-eq10.branch [
      | then-byte-eq10 w ↦ subst (IsLine a b (i + 1)) (sym w.line-is) (next_line a b i c.loop-place.line c.loop-place.invariant c.loop-place-test.true here w.if-byte-eq10.true)
      | else-byte-eq10 w ↦ subst (IsLine a b (i + 1)) (sym w.line-is) (same_line a b i c.loop-place.line c.loop-place.invariant c.loop-place-test.true here w.if-byte-eq10.false)
    ]

pub returns : goal.returns
returns c =
    line_is c.args.a.now c.args.b.now c.loop-place.place c.loop-place.line c.loop-place.invariant
    (ended c.args.a.now c.args.b.now c.loop-place.place c.loop-place-test.false)
