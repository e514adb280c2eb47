use Rattle.std.proofs.Common.{◌-◌, inl, inr, arith}
use Rattle.spl_values.proofs.Powers.{unit_of}
use Rattle.spl_values.proofs.Padded.{step_of, text_ends}
use Rattle.spl_values.proofs.kept_texts.first_byte.Goals as goal
use Rattle.spl_values.proofs.kept_texts.first_byte.Goals.{then-kept-eq0-via-then-kept-eq0, then-kept-eq0-via-else-kept-eq0+then-places-eq0}

pub returns-then-kept-eq0 : goal.returns-then-kept-eq0
returns-then-kept-eq0 c =
    text_ends c.args.places c.args.kept c.requires.below
    (elim c.then-kept-eq0.branch [
      | then-kept-eq0-via-then-kept-eq0 w ↦ let none = w.if-kept-eq0.true in inl (omega arith)
      | then-kept-eq0-via-else-kept-eq0+then-places-eq0 w ↦ let none = w.if-places-eq0.true in inr (omega arith)
    ])

pub overflow_cast-result : goal.overflow_cast-result
overflow_cast-result c =
    let unit = unit_of (c.args.places - 1) (omega (arith, c.requires.few, c.if-places-eq0.false)) in
    let step = step_of c.args.places c.args.kept (omega (arith, c.if-kept-eq0.false)) (omega (arith, c.if-places-eq0.false)) c.requires.below in
    rw unit (omega (arith, step.byte))

pub returns : goal.returns
returns c =
    let unit = unit_of (c.args.places - 1) (omega (arith, c.requires.few, c.if-places-eq0.false)) in
    let step = step_of c.args.places c.args.kept (omega (arith, c.if-kept-eq0.false)) (omega (arith, c.if-places-eq0.false)) c.requires.below in
    rw unit (omega (arith, c.if-places-eq0.false), step.below, step.text)
