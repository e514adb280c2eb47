-- A query's text in a frame is ASCII.
use Rattle.std.proofs.Common.{◌≡◌, ◌<◌, ◌≤◌, ℕ, Bool, true, false, cond, List, length, Some, None, refl, arith, get_or, ltb, inl, inr}
use Rattle.std.specs.List.{position, position_or_len}
use Rattle.std.specs.Str.{IsAscii}
use Rattle.std.proofs.lemmas.Bool.{cases_lt, ltb-false}
use Rattle.std.proofs.lemmas.Bool.Decides.{nat_tests}
use Rattle.std.proofs.lemmas.List.{get_or_past}
use Rattle.std.proofs.lemmas.List.Sums.{fails_before_first}
use Rattle.key_frames.specs.Texts.{is_bad}

no_place : (b : Bool) (i : ℕ) → cond b (Some i) None ≡ None → b ≡ false
no_place true i h = absurd cc
no_place false i h = refl

plain : (b : ℕ) → is_bad b ≡ false → b < 128
plain b h = grind (arith, nat_tests)

-- a text without a bad byte is ASCII
pub ascii_text : (text : List ℕ) → position is_bad text ≡ None → IsAscii text
ascii_text text h i =
    let end : length text ≤ position_or_len is_bad text = ltb-false _ _ (no_place (ltb (position_or_len is_bad text) (length text)) (position_or_len is_bad text) h) in
    elim (cases_lt i (length text)) [
      | inl inside ↦ plain (get_or text i 0) (fails_before_first is_bad text i 0 (omega arith))
      | inr outside ↦ (let none = get_or_past text i 0 outside in omega (arith, none))
    ]
