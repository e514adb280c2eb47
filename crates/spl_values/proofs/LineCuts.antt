-- Texts, cut at a byte or at the end of a line.
use Rattle.std.proofs.Common.{◌≡◌, ℕ, ◌+◌, ◌-◌, ◌<◌, ◌==◌, Bool, true, false, cond, nat_lt, List, [], ◌∷◌, length, take, drop, position, Some, None, refl, sym, ap, ◌∙◌, arith, length-drop}
use Rattle.std.specs.List.{slice_split, onto_first, position_or_len, position_from}
use Rattle.std.specs.Str.Lines.{lines, lines_of_parts, strip_carriage_return}
use Rattle.std.proofs.lemmas.List.{take_all}
use Rattle.std.proofs.lemmas.List.Splits.{slice_split_first, length-slice_split}
use Rattle.std.proofs.lemmas.Iterator.Adapters.{position_from-zero}
use Rattle.std.proofs.lemmas.Option.{cond_some}
use Rattle.std.proofs.lemmas.Bool.Decides.{nat_tests}

-- where the first byte stands
position_parts : (p : ℕ → Bool) (xs : List ℕ) (i : ℕ) → position p xs ≡ Some i → (position_or_len p xs ≡ i) × (i < length xs)
position_parts p xs i e =
    let parts = cond_some (nat_lt (position_or_len p xs) (length xs)) (position_or_len p xs) i e in
    (parts.1, let lt : position_or_len p xs < length xs = grind (arith, nat_tests) in omega (arith, lt, parts.1))

pub split_at_place : (p : ℕ → Bool) (text : List ℕ) (place : ℕ) → position p text ≡ Some place
    → slice_split p text ≡ take place text ∷ slice_split p (take (length text - (place + 1)) (drop (place + 1) text))
split_at_place p text place e =
    let parts = position_parts p text place e in
    let within : position_or_len p text < length text = omega (arith, parts.0, parts.1) in
    let whole : take (length text - (place + 1)) (drop (place + 1) text) ≡ drop (place + 1) text = take_all (length text - (place + 1)) (drop (place + 1) text) (omega (arith, length-drop (place + 1) text)) in
    slice_split_first p text 0 within ∙ ap (λ n. take n text ∷ slice_split p (drop (n + 1) text)) parts.0 ∙ ap (λ t. take place text ∷ slice_split p t) (sym whole)

uncut : (p : ℕ → Bool) (i : ℕ) (xs : List ℕ) → position_from p i xs ≡ None → slice_split p xs ≡ xs ∷ []
uncut p i [] e = refl
uncut p i (x ∷ xs) e =
    elim (p x) as (λ b. cond b (Some i) (position_from p (i + 1) xs) ≡ None → cond b ([] ∷ slice_split p xs) (onto_first x (slice_split p xs)) ≡ (x ∷ xs) ∷ [])
    [ true ↦ λ f. absurd cc | false ↦ λ f. ap (onto_first x) (uncut p (i + 1) xs f) ] e

pub split_nowhere : (p : ℕ → Bool) (text : List ℕ) → position p text ≡ None → slice_split p text ≡ text ∷ []
split_nowhere p text e = uncut p 0 text (sym (position_from-zero p text) ∙ e)

-- the lines of a text that begins with a line and its end
pub lines_step : (text part rest : List ℕ) → slice_split (λ b. b == 10) text ≡ part ∷ slice_split (λ b. b == 10) rest → lines text ≡ strip_carriage_return part ∷ lines rest
lines_step text part rest e = by_parts (slice_split (λ b. b == 10) rest) refl
  where
    by_parts : (parts : List (List ℕ)) → slice_split (λ b. b == 10) rest ≡ parts → lines text ≡ strip_carriage_return part ∷ lines rest
    by_parts [] f = let none : length (slice_split (λ b. b == 10) rest) ≡ 0 = ap length f in absurd (omega (arith, none, length-slice_split (λ b. b == 10) rest))
    by_parts (y ∷ more) f = ap lines_of_parts (e ∙ ap (λ ps. part ∷ ps) f) ∙ ap (λ ps. strip_carriage_return part ∷ lines_of_parts ps) (sym f)
