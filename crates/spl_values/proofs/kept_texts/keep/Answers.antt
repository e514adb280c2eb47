use Rattle.std.proofs.Common.{◌≡◌, ◌-◌, ◌*◌, ◌^◌, ◌%◌, ◌<◌, ℕ, [], drop, get_or, arith, sym, ap, ◌∙◌, Fits, w8}
use Rattle.std.proofs.lemmas.List.{drop_all}
use Rattle.std.proofs.lemmas.Nat.{shl_whole}
use Rattle.spl_values.proofs.Powers.{bytes_bits}
use Rattle.spl_values.proofs.Padded.{padded-nil, padded-drop, padded-lt}
use Rattle.spl_values.proofs.kept_texts.keep.Goals as goal

-- what a byte adds
byte_at : (b i : ℕ) → Fits w8 b → (b * 2 ^ (8 * (15 - i))) % 2 ^ 128 ≡ b * 256 ^ (15 - i)
byte_at b i h = let small : b < 2 ^ 8 = omega (arith, h) in shl_whole b 8 (8 * (15 - i)) 128 small (omega arith) ∙ ap (λ x. b * x) (sym (bytes_bits (15 - i)))

pub overflow_add-kept : goal.overflow_add-kept
overflow_add-kept c =
    let here = byte_at (get_or c.args.text.now c.loop-place.place 0) c.loop-place.place (c.type_inv.text c.loop-place.place) in
    let next = padded-drop c.args.text.now c.loop-place.place c.loop-place-test.true c.requires.1 in
    let most = padded-lt 16 c.args.text.now c.requires in
    rw here (omega (arith, next, most, c.loop-place.invariant))

pub loop-place-preserved : goal.loop-place-preserved
loop-place-preserved c =
    let here = byte_at (get_or c.args.text.now c.loop-place.place 0) c.loop-place.place (c.type_inv.text c.loop-place.place) in
    let next = padded-drop c.args.text.now c.loop-place.place c.loop-place-test.true c.requires.1 in
    rw here (omega (arith, next, c.loop-place.invariant))

pub returns : goal.returns
returns c =
    let over : drop c.loop-place.place c.args.text.now ≡ [] = drop_all c.loop-place.place c.args.text.now c.loop-place-test.false in
    let none = padded-nil (16 - c.loop-place.place) in
    let whole = rw (over, none) at c.loop-place.invariant in
    omega (arith, whole)
