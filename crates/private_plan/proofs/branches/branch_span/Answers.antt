use Rattle.std.proofs.Common.{◌≡◌, ◌+◌, ◌-◌, ◌<◌, suc, length, drop, ap, sym, ◌∙◌, arith}
use Rattle.spl_values.specs.Tables.{key_bits}
use Rattle.private_plan.specs.Branches.{branch_span}
use Rattle.private_plan.proofs.Backwards.{from_last, before, bits_before, fewer_bits, fits_before, last_bits_alone}
use Rattle.private_plan.proofs.branches.branch_span.Goals as goal

pub loop-turn-init : goal.loop-turn-init
loop-turn-init c =
    let columns = c.args.schema.now.columns in
    let places = c.args.places.now in
    let none : length places - 1 - 0 ≡ length places - 1 = omega arith in (
      rw none (c.between-span.ensures ∙ from_last columns places c.args.range c.args.params.now c.requires.some c.requires.below),
      rw none (c.column_bits-bits.ensures ∙ sym (last_bits_alone columns places c.requires.some)),
    )

pub behind-span-requires-clause-bits : goal.behind-span-requires-clause-bits
behind-span-requires-clause-bits c =
    let fewer = fewer_bits c.args.schema.now.columns c.args.places.now (length c.args.places.now - 1 - c.loop-turn.turn) in
    let narrow = c.requires.bits in
    rw c.loop-turn.invariant.1 (omega (arith, fewer, narrow))

pub behind-span-requires-clause-fits : goal.behind-span-requires-clause-fits
behind-span-requires-clause-fits c =
    let places = c.args.places.now in
    let here : suc (length places - 1 - 1 - c.loop-turn.turn) < length places = omega (arith, c.requires.some, c.loop-turn-test.true) in
    let next : length places - 1 - c.loop-turn.turn ≡ suc (length places - 1 - 1 - c.loop-turn.turn) = omega (arith, c.requires.some, c.loop-turn-test.true) in
    rw (c.loop-turn.invariant.0, c.loop-turn.invariant.1, next) (fits_before c.args.schema.now.columns places c.args.range c.args.params.now (length places - 1 - 1 - c.loop-turn.turn) here c.requires.bits c.requires.below)

pub overflow_add-bits : goal.overflow_add-bits
overflow_add-bits c =
    let columns = c.args.schema.now.columns in
    let places = c.args.places.now in
    let i = length places - 1 - 1 - c.loop-turn.turn in
    let here : i < length places = omega (arith, c.requires.some, c.loop-turn-test.true) in
    let next : length places - 1 - c.loop-turn.turn ≡ suc i = omega (arith, c.requires.some, c.loop-turn-test.true) in
    let bits = bits_before columns places i here in
    let fewer = fewer_bits columns places i in
    let narrow = c.requires.bits in
    let before_bits = c.loop-turn.invariant.1 ∙ ap (λ k. key_bits columns (drop k places)) next in
    record { fits = omega (arith, bits, fewer, narrow, before_bits, c.column_bits-bits-in-loop-turn.ensures) }

pub loop-turn-preserved : goal.loop-turn-preserved
loop-turn-preserved c =
    let columns = c.args.schema.now.columns in
    let places = c.args.places.now in
    let i = length places - 1 - 1 - c.loop-turn.turn in
    let here : suc i < length places = omega (arith, c.requires.some, c.loop-turn-test.true) in
    let next : length places - 1 - c.loop-turn.turn ≡ suc i = omega (arith, c.requires.some, c.loop-turn-test.true) in
    let now : length places - 1 - (c.loop-turn.turn + 1) ≡ i = omega (arith, c.requires.some, c.loop-turn-test.true) in
    let within : i < length c.args.params.now = omega (arith, here, c.requires.enough) in
    let step = before columns places c.args.range c.args.params.now i here within in
    let bits = bits_before columns places i (omega (arith, here)) in
    let before_bits = c.loop-turn.invariant.1 ∙ ap (λ k. key_bits columns (drop k places)) next in
    let before_span = c.loop-turn.invariant.0 ∙ ap (λ k. branch_span columns (drop k places) c.args.range (drop k c.args.params.now)) next in (
      rw now (c.behind-span.ensures ∙ rw (before_span, before_bits) step),
      rw now (rw (c.column_bits-bits-in-loop-turn.ensures, before_bits) (sym bits)),
    )
