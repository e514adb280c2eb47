use Rattle.std.proofs.Common.{◌≡◌, ◌↔◌, Bool, true, false, List, ℕ, IsTrue, refl, sym, nat_eq}
use Rattle.std.specs.Cmp.Lexicographic.{pointwise, same_text}
use Rattle.std.proofs.lemmas.Cmp.{nat_list_eq_equiv}
use Rattle.std.proofs.lemmas.Bool.{false≢true}
use Rattle.query_tokens.specs.Tokens.{same_word}
use Rattle.query_tokens.proofs.lexer.is_word.Goals as goal

other : (x y : List ℕ) (s : Bool) → s ≡ pointwise nat_eq x y → (x ≡ y → ⊥) → false ≡ s
other x y true e differ = absurd (differ (same_text x y e))
other x y false e differ = refl

same : (x y : List ℕ) → x ≡ y → true ≡ pointwise nat_eq x y
same x y e = rw e (sym (nat_list_eq_equiv.refl y))

tested : (r : Bool) (x y : List ℕ) → IsTrue r ↔ (x ≡ y) → r ≡ pointwise nat_eq x y
tested true x y h = same x y (h.0 refl)
tested false x y h = other x y (pointwise nat_eq x y) refl (λ e. false≢true (h.1 e))

pub returns : goal.returns
unfolding same_word
returns c = tested _ _ _ c.eq_ignore_ascii_case.ensures.test
