use Rattle.std.proofs.Common.{◌≡◌, ◌-◌, ◌^◌, min, Some, option_map, ap, sym, ◌∙◌, inl, inr, arith}
use Rattle.spl_values.proofs.ShapeReading.{NotLed, plain-led, plain-ok, plain-large, plain-none, capped}
use Rattle.spl_values.proofs.shape_reader.plain_number.Goals as goal
use Rattle.spl_values.proofs.shape_reader.plain_number.Goals.{else-text-gt1-via-then-text-gt1+else-text-eq48, else-text-gt1-via-else-text-gt1}

pub returns-then-not-is_number : goal.returns-then-not-is_number
returns-then-not-is_number c = ap (option_map (λ n. min n (2 ^ 32 - 1))) (sym (plain-none c.args.text.now (sym c.if-not-is_number.ensures)))

pub returns-then-text-eq48 : goal.returns-then-text-eq48
returns-then-text-eq48 c = ap (option_map (λ n. min n (2 ^ 32 - 1))) (sym (plain-led c.args.text.now c.if-text-gt1.true c.if-text-eq48.true))

pub returns-in-Ok : goal.returns-in-Ok
returns-in-Ok c =
    let led : NotLed c.args.text.now = elim c.else-text-gt1.branch [ else-text-gt1-via-then-text-gt1+else-text-eq48 w ↦ inr w.if-text-eq48.false | else-text-gt1-via-else-text-gt1 w ↦ inl w.if-text-gt1.false ] in
    let plain = plain-ok c.args.text.now c.in-Ok.number led (sym c.in-Ok.ensures) in
    let small = c.unwrap_or.ensures ∙ capped c.try_from.result c.in-Ok.number c.try_from.ensures in
    rw plain (ap Some small)

pub returns-in-Err : goal.returns-in-Err
returns-in-Err c =
    let led : NotLed c.args.text.now = elim c.else-text-gt1.branch [ else-text-gt1-via-then-text-gt1+else-text-eq48 w ↦ inr w.if-text-eq48.false | else-text-gt1-via-else-text-gt1 w ↦ inl w.if-text-gt1.false ] in
    let large = plain-large c.args.text.now c.in-Err.field-0 led (sym c.if-not-is_number.ensures) (sym c.in-Err.ensures) in
    rw large.1 (ap Some (let most : 2 ^ 32 - 1 ≡ min large.0 (2 ^ 32 - 1) = omega (arith, large.2) in most))
