-- The first line at which two texts differ, byte by byte.
use Rattle.std.proofs.Common.{◌≡◌, ◌<◌, ◌≤◌, ◌+◌, ℕ, Bool, true, false, List, [], ◌∷◌, length, take, drop, Some, refl, sym, ap, ◌∙◌, arith, get_or, eqb, slice_get, inl, inr, length-take}
use Rattle.std.specs.Prelude.{◌==◌}
use Rattle.std.specs.List.{common_prefix_len, count_by}
use Rattle.std.proofs.lemmas.Bool.{cases_lt, eq-eqb, eqb-true}
use Rattle.std.proofs.lemmas.List.{drop_all}
use Rattle.std.proofs.lemmas.List.Sums.{common_prefix_len-drop_yes, common_prefix_len-drop_no, count_by_more_yes, count_by_more_no, count_by-le-length}
use Rattle.std.proofs.lemmas.Option.{slice_get-get_or, slice_get_within, get_or_from_slice_get}
use Rattle.provider_core.specs.Lines.{first_line}

-- how many bytes two texts begin with alike, behind so many of each
abbrev pub alike : List ℕ → List ℕ → ℕ → ℕ
alike a b i = common_prefix_len (λ x y. x == y) (drop i a) (drop i b)

none_right : (a : List ℕ) → common_prefix_len (λ x y. x == y) a [] ≡ 0
none_right [] = refl
none_right (x ∷ xs) = refl

differs : (x y : ℕ) (t : Bool) → eqb x y ≡ t → (x ≡ y → ⊥) → t ≡ false
differs x y false e never = refl
differs x y true e never = absurd (never (eqb-true x y e))

-- nothing is alike where the bytes differ, or the second text has ended
pub stops : (a b : List ℕ) (i : ℕ) → i < length a → (slice_get b i ≡ Some (get_or a i 0) → ⊥) → alike a b i ≡ 0
stops a b i h never =
    elim (cases_lt i (length b)) [
      | inl inside ↦ common_prefix_len-drop_no (λ x y. x == y) a b i 0 0 h inside
          (differs (get_or a i 0) (get_or b i 0) (eqb (get_or a i 0) (get_or b i 0)) refl (λ same. never (slice_get-get_or b i 0 inside ∙ ap Some (sym same))))
      | inr outside ↦ ap (common_prefix_len (λ x y. x == y) (drop i a)) (drop_all i b outside) ∙ none_right (drop i a)
    ]

-- one byte more where they are the same
pub goes_on : (a b : List ℕ) (i : ℕ) → i < length a → slice_get b i ≡ Some (get_or a i 0) → alike a b i ≡ 1 + alike a b (i + 1)
goes_on a b i h here =
    let inside = slice_get_within b i (get_or a i 0) here in
    let same : get_or b i 0 ≡ get_or a i 0 = get_or_from_slice_get b i (get_or a i 0) 0 here in
    common_prefix_len-drop_yes (λ x y. x == y) a b i 0 0 h inside (eq-eqb (get_or a i 0) (get_or b i 0) (sym same))

-- nothing is alike behind the first text
pub ended : (a b : List ℕ) (i : ℕ) → length a ≤ i → alike a b i ≡ 0
ended a b i h = ap (λ x. common_prefix_len (λ x y. x == y) x (drop i b)) (drop_all i a h)

-- so many bytes are alike, and the line is that behind them
pub record IsLine (a b : List ℕ) (i line : ℕ) : Type 0 where
  pub told : line ≡ 1 + count_by (λ c. c == 10) (take i a)
  pub rest : i + alike a b i ≡ alike a b 0

pub begins : (a b : List ℕ) → IsLine a b 0 1
begins a b = record { told = refl; rest = omega arith }

pub next_line : (a b : List ℕ) (i line : ℕ) → IsLine a b i line → i < length a → slice_get b i ≡ Some (get_or a i 0) → get_or a i 0 ≡ 10 → IsLine a b (i + 1) (line + 1)
next_line a b i line is h here feed =
    let more = count_by_more_yes (λ c. c == 10) a i 0 h (eq-eqb (get_or a i 0) 10 feed) in
    let on = goes_on a b i h here in
    record { told = omega (arith, is.told, more); rest = omega (arith, is.rest, on) }

pub same_line : (a b : List ℕ) (i line : ℕ) → IsLine a b i line → i < length a → slice_get b i ≡ Some (get_or a i 0) → (get_or a i 0 ≡ 10 → ⊥) → IsLine a b (i + 1) line
same_line a b i line is h here other =
    let more = count_by_more_no (λ c. c == 10) a i 0 h (differs (get_or a i 0) 10 (eqb (get_or a i 0) 10) refl other) in
    let on = goes_on a b i h here in
    record { told = omega (arith, is.told, more); rest = omega (arith, is.rest, on) }

-- where nothing more is alike, it is the first line that differs
pub line_is : (a b : List ℕ) (i line : ℕ) → IsLine a b i line → alike a b i ≡ 0 → line ≡ first_line a b
line_is a b i line is none =
    let all : i ≡ alike a b 0 = omega (arith, is.rest, none) in
    is.told ∙ ap (λ n. 1 + count_by (λ c. c == 10) (take n a)) all

-- a line's number is that of a byte at most
pub line_below : (a b : List ℕ) (i line : ℕ) → IsLine a b i line → line ≤ 1 + length a
line_below a b i line is =
    let few = count_by-le-length (λ c. c == 10) (take i a) in
    let long = length-take i a in
    omega (arith, is.told, few, long)
