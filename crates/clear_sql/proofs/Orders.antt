-- A list in an order, by insertion, is the same list sorted.
use Rattle.std.proofs.Common.{◌≡◌, ℕ, zero, suc, ◌<◌, Bool, true, false, cond, List, [], ◌∷◌, refl, ap, ◌∙◌, add-one, arith}
use Rattle.std.specs.List.{AllByRecursion, filter}
use Rattle.std.specs.List.Sorted.{IsPermutation, IsSortedBy, ties}
use Rattle.std.proofs.lemmas.Bool.Decides.{nat_tests}
use Rattle.std.proofs.lemmas.List.Sorted.{IsPermutation-refl, IsPermutation-cons, IsPermutation-middle, IsPermutation-trans}
use Rattle.cell_merge.specs.Rows.{Row}
use Rattle.cell_merge.specs.Entries.{ordered, insertion}
use Rattle.cell_merge.proofs.Lists.{each_weaker}
use Rattle.clear_sql.specs.Clear.{is_better}
use Rattle.clear_sql.specs.Meaning.{RowsRise, IsFalling, sorts_above}

-- ---- any order

permutation-placed : {A : Type 0} (before : A → A → Bool) (x : A) (ys : List A) → IsPermutation (x ∷ ys) (insertion before x ys)
unfolding insertion
permutation-placed before x [] = IsPermutation-refl (x ∷ [])
permutation-placed before x (y ∷ ys) = step (before y x) (permutation-placed before x ys)
  where
    step : (t : Bool) → IsPermutation (x ∷ ys) (insertion before x ys) → IsPermutation (x ∷ y ∷ ys) (cond t (y ∷ insertion before x ys) (x ∷ y ∷ ys))
    step true h =
        IsPermutation-trans (x ∷ y ∷ ys) (y ∷ x ∷ ys) (y ∷ insertion before x ys) (IsPermutation-middle (x ∷ []) y ys) (IsPermutation-cons y (x ∷ ys) (insertion before x ys) h)
    step false h = IsPermutation-refl (x ∷ y ∷ ys)

pub permutation-ordered : {A : Type 0} (before : A → A → Bool) (xs : List A) → IsPermutation xs (ordered before xs)
unfolding ordered
permutation-ordered before [] = IsPermutation-refl []
permutation-ordered before (x ∷ xs) =
    IsPermutation-trans (x ∷ xs) (x ∷ ordered before xs) (insertion before x (ordered before xs)) (IsPermutation-cons x xs (ordered before xs) (permutation-ordered before xs))
    (permutation-placed before x (ordered before xs))

each-placed : {A : Type 0} (before : A → A → Bool) (P : A → Type 0) (x : A) (ys : List A) → P x → AllByRecursion P ys → AllByRecursion P (insertion before x ys)
unfolding insertion
each-placed before P x [] p h = (p, tt)
each-placed before P x (y ∷ ys) p h = step (before y x) (each-placed before P x ys p h.1)
  where
    step : (t : Bool) → AllByRecursion P (insertion before x ys) → AllByRecursion P (cond t (y ∷ insertion before x ys) (x ∷ y ∷ ys))
    step true r = (h.0, r)
    step false r = (p, h)

each-ordered : {A : Type 0} (before : A → A → Bool) (P : A → Type 0) (xs : List A) → AllByRecursion P xs → AllByRecursion P (ordered before xs)
unfolding ordered
each-ordered before P [] h = tt
each-ordered before P (x ∷ xs) h = each-placed before P x (ordered before xs) h.0 (each-ordered before P xs h.1)

-- ---- falling sort values

better-asym : (sort : ℕ) (x y : Row) → is_better sort x y ≡ true → is_better sort y x ≡ false
unfolding is_better
better-asym sort x y h = grind (arith, nat_tests)

better-through : (sort : ℕ) (x y z : Row) → is_better sort x y ≡ false → is_better sort y z ≡ false → is_better sort x z ≡ false
unfolding is_better
better-through sort x y z h k = grind (arith, nat_tests)

not_above : (sort : ℕ) (x y : Row) → is_better sort x y ≡ false → sorts_above sort x y ≡ false
unfolding is_better
not_above sort x y h = grind (arith, nat_tests)

-- none is better than one before it
abbrev Falls : ℕ → List Row → Type 0
Falls sort [] = Unit {0}
Falls sort (x ∷ xs) = AllByRecursion (λ y. is_better sort y x ≡ false) xs × Falls sort xs

falls-placed : (sort : ℕ) (x : Row) (ys : List Row) → Falls sort ys → Falls sort (insertion (is_better sort) x ys)
unfolding insertion
falls-placed sort x [] h = (tt, tt)
falls-placed sort x (y ∷ ys) h = step (is_better sort y x) refl (falls-placed sort x ys h.1)
  where
    step : (t : Bool) → is_better sort y x ≡ t → Falls sort (insertion (is_better sort) x ys) → Falls sort (cond t (y ∷ insertion (is_better sort) x ys) (x ∷ y ∷ ys))
    step true e r = (each-placed (is_better sort) (λ z. is_better sort z y ≡ false) x ys (better-asym sort y x e) h.0, r)
    step false e r = ((e, each_weaker (λ z. is_better sort z y ≡ false) (λ z. is_better sort z x ≡ false) (λ z p. better-through sort z y x p e) ys h.0), h)

falls-ordered : (sort : ℕ) (xs : List Row) → Falls sort (ordered (is_better sort) xs)
unfolding ordered
falls-ordered sort [] = tt
falls-ordered sort (x ∷ xs) = falls-placed sort x (ordered (is_better sort) xs) (falls-ordered sort xs)

sorted-falls : (sort : ℕ) (xs : List Row) → Falls sort xs → IsSortedBy (sorts_above sort) xs
sorted-falls sort [] h k d low room = absurd (omega arith)
sorted-falls sort (x ∷ []) h k d low room = absurd (omega arith)
sorted-falls sort (x ∷ y ∷ ys) h zero d low room = not_above sort y x h.0.0
sorted-falls sort (x ∷ y ∷ ys) h (suc k) d low room = let rest = sorted-falls sort (y ∷ ys) h.1 k d (omega arith) (omega arith) in rw add-one (rw add-one at rest)

-- ---- equal ones as they stood

-- a later row stands first only by a greater sort value
apart_by_value : (sort : ℕ) (c r y : Row) → r.number < y.number → is_better sort y r ≡ true → ties (sorts_above sort) c y ≡ true → ties (sorts_above sort) c r ≡ true → ⊥
unfolding is_better
apart_by_value sort c r y h b p q = grind (arith, nat_tests)

stable-placed : (sort : ℕ) (c r : Row) (ys : List Row) → AllByRecursion (λ (y : Row). r.number < y.number) ys
    → filter (ties (sorts_above sort) c) (insertion (is_better sort) r ys) ≡ filter (ties (sorts_above sort) c) (r ∷ ys)
unfolding insertion
stable-placed sort c r [] h = refl
stable-placed sort c r (y ∷ ys) h = step (is_better sort y r) refl (p y) refl (p r) refl (stable-placed sort c r ys h.1)
  where
    p : Row → Bool
    p = ties (sorts_above sort) c

    step : (t : Bool) → is_better sort y r ≡ t → (u : Bool) → p y ≡ u → (v : Bool) → p r ≡ v → filter p (insertion (is_better sort) r ys) ≡ cond (p r) (r ∷ filter p ys) (filter p ys)
        → filter p (cond t (y ∷ insertion (is_better sort) r ys) (r ∷ y ∷ ys)) ≡ cond (p r) (r ∷ cond (p y) (y ∷ filter p ys) (filter p ys)) (cond (p y) (y ∷ filter p ys) (filter p ys))
    step true b true u true v e = absurd (apart_by_value sort c r y h.0 b u v)
    step true b true u false v e = rw (u, v) (ap (λ l. y ∷ l) (rw v at e))
    step true b false u true v e = rw (u, v) (rw v at e)
    step true b false u false v e = rw (u, v) (rw v at e)
    step false b u _ v _ e = refl

stable-ordered : (sort : ℕ) (c : Row) (rows : List Row) → RowsRise rows → filter (ties (sorts_above sort) c) (ordered (is_better sort) rows) ≡ filter (ties (sorts_above sort) c) rows
unfolding ordered
stable-ordered sort c [] h = refl
stable-ordered sort c (r ∷ rs) h =
    let p : Row → Bool = ties (sorts_above sort) c in
    stable-placed sort c r (ordered (is_better sort) rs) (each-ordered (is_better sort) (λ (y : Row). r.number < y.number) rs h.0)
    ∙ ap (λ l. cond (p r) (r ∷ l) l) (stable-ordered sort c rs h.1)

-- rows in order fall by their sort values
pub falling : (sort : ℕ) (rows : List Row) → RowsRise rows → IsFalling sort rows (ordered (is_better sort) rows)
falling sort rows rise = record {
  same_rows = permutation-ordered (is_better sort) rows;
  falling = sorted-falls sort (ordered (is_better sort) rows) (falls-ordered sort rows);
  equal_stay = λ c. stable-ordered sort c rows rise;
}
