-- Which numbers stand in a list, and which rows have one.
use Rattle.std.proofs.Common.{◌≡◌, ◌≢◌, ℕ, ◌<◌, Bool, true, false, ◌||◌, cond, eqb, List, [], ◌∷◌, ◌++◌, length, map, inl, inr, refl, ap, sym, subst, ◌∙◌, arith}
use Rattle.std.specs.List.{list_any, AllByRecursion}
use Rattle.std.proofs.lemmas.Bool.{cond-true, cond-false, eq-eqb, eqb-true, ne_eqb, false≢true, or_cases}
use Rattle.spl_words.specs.Rising.{among}
use Rattle.spl_words.proofs.Rising.{Rises}
use Rattle.cell_merge.specs.Rows.{Row, Interleaves}
use Rattle.cell_merge.specs.Rows.Interleaves.{none, left, right}
use Rattle.cell_runs.specs.CellsBy.{rows_at}

-- ---- tests

pub or_none : (b : Bool) → (b || false) ≡ b
or_none true = refl
or_none false = refl

pub or_parts : (a b : Bool) → (a || b) ≡ false → (a ≡ false) × (b ≡ false)
or_parts true b e = absurd (false≢true (sym e))
or_parts false b e = (refl, e)

or_swap : (a b c : Bool) → (a || (b || c)) ≡ (b || (a || c))
or_swap true true c = refl
or_swap true false c = refl
or_swap false b c = refl

or_assoc : (a b c : Bool) → (a || (b || c)) ≡ ((a || b) || c)
or_assoc true b c = refl
or_assoc false b c = refl

-- ---- lists that are put together

pub any-interleaved : {A : Type 0} (q : A → Bool) (a b c : List A) → Interleaves a b c → list_any q c ≡ (list_any q a || list_any q b)
any-interleaved q _ _ _ none = refl
any-interleaved q _ _ _ (left x a b c i) = ap (λ t. q x || t) (any-interleaved q a b c i) ∙ or_assoc (q x) (list_any q a) (list_any q b)
any-interleaved q _ _ _ (right x a b c i) = ap (λ t. q x || t) (any-interleaved q a b c i) ∙ or_swap (q x) (list_any q a) (list_any q b)

pub left_only : {A : Type 0} (a b c : List A) → Interleaves a b c → b ≡ [] → c ≡ a
left_only _ _ _ none e = refl
left_only _ _ _ (left x a b c i) e = ap (λ l. x ∷ l) (left_only a b c i e)
left_only _ _ _ (right x a b c i) e = cc

pub right_only : {A : Type 0} (a b c : List A) → Interleaves a b c → a ≡ [] → c ≡ b
right_only _ _ _ none e = refl
right_only _ _ _ (left x a b c i) e = cc
right_only _ _ _ (right x a b c i) e = ap (λ l. x ∷ l) (right_only a b c i e)

-- ---- numbers

pub among_all : (P : ℕ → Type 0) (l : List ℕ) → ((x : ℕ) → among l x ≡ true → P x) → AllByRecursion P l
among_all P [] h = tt
among_all P (y ∷ l) h = (h y (ap (λ t. t || among l y) (eq-eqb y y refl)), among_all P l (λ x t. h x (later (eqb y x) (among l x) t)))
  where
    later : (a b : Bool) → b ≡ true → (a || b) ≡ true
    later true b e = refl
    later false b e = e

pub all_among : (P : ℕ → Type 0) (l : List ℕ) (x : ℕ) → AllByRecursion P l → among l x ≡ true → P x
all_among P [] x h e = absurd (false≢true e)
all_among P (y ∷ l) x h e =
    elim (or_cases (eqb y x) (among l x) e) [
      | inl t ↦ subst P (eqb-true y x t) h.0
      | inr t ↦ all_among P l x h.1 t
    ]

pub only_among : (k z : ℕ) (l : List ℕ) → AllByRecursion (λ n. n ≡ k) l → 0 < length l → among l z ≡ eqb k z
only_among k z [] h some = absurd (omega arith)
only_among k z (x ∷ []) h some = or_none (eqb x z) ∙ ap (λ n. eqb n z) h.0
only_among k z (x ∷ y ∷ l) h some = ap (λ t. eqb x z || t) (only_among k z (y ∷ l) h.1 (omega arith)) ∙ (ap (λ n. eqb n z || eqb k z) h.0 ∙ or_self (eqb k z))
  where
    or_self : (b : Bool) → (b || b) ≡ b
    or_self true = refl
    or_self false = refl

pub Rises-snoc : (k : ℕ) (l : List ℕ) → Rises l → AllByRecursion (λ n. n < k) l → Rises (l ++ k ∷ [])
Rises-snoc k [] h p = (tt, tt)
Rises-snoc k (x ∷ l) h p = (each-snoc (λ y. x < y) l h.0 p.0, Rises-snoc k l h.1 p.1)
  where
    each-snoc : (P : ℕ → Type 0) (l : List ℕ) → AllByRecursion P l → P k → AllByRecursion P (l ++ k ∷ [])
    each-snoc P [] h q = (q, tt)
    each-snoc P (y ∷ l) h q = (h.0, each-snoc P l h.1 q)

-- ---- rows that have a number

module _ (number : Row → ℕ) where
  pub none_at : (k n : ℕ) (rows : List Row) → k ≢ n → AllByRecursion (λ r. number r ≡ k) rows → rows_at number rows n ≡ []
  none_at k n [] d h = refl
  none_at k n (r ∷ rows) d h =
      cond-false (eqb (number r) n) (r ∷ rows_at number rows n) (rows_at number rows n) (ne_eqb (number r) n (λ e. d (sym h.0 ∙ e))) ∙ none_at k n rows d h.1

  pub all_at : (k : ℕ) (rows : List Row) → AllByRecursion (λ r. number r ≡ k) rows → rows_at number rows k ≡ rows
  all_at k [] h = refl
  all_at k (r ∷ rows) h =
      cond-true (eqb (number r) k) (r ∷ rows_at number rows k) (rows_at number rows k) (eq-eqb (number r) k h.0) ∙ ap (λ l. r ∷ l) (all_at k rows h.1)

  pub none_among : (k : ℕ) (rows : List Row) → among (map number rows) k ≡ false → rows_at number rows k ≡ []
  none_among k [] e = refl
  none_among k (r ∷ rows) e =
      let parts = or_parts (eqb (number r) k) (among (map number rows) k) e in
      cond-false (eqb (number r) k) (r ∷ rows_at number rows k) (rows_at number rows k) parts.0 ∙ none_among k rows parts.1

  pub some_among : (k : ℕ) (rows : List Row) → among (map number rows) k ≡ true → 0 < length (rows_at number rows k)
  some_among k [] e = absurd (false≢true e)
  some_among k (r ∷ rows) e = step (eqb (number r) k) (some_among k rows) e
    where
      step : (t : Bool) → (among (map number rows) k ≡ true → 0 < length (rows_at number rows k)) → (t || among (map number rows) k) ≡ true → 0 < length (cond t (r ∷ rows_at number rows k) (rows_at number rows k))
      step true h e = omega arith
      step false h e = h e

  pub each_at : (k : ℕ) (rows : List Row) → AllByRecursion (λ r. number r ≡ k) (rows_at number rows k)
  each_at k [] = tt
  each_at k (r ∷ rows) = step (eqb (number r) k) (λ t. eqb-true (number r) k t) (each_at k rows)
    where
      step : (t : Bool) → (t ≡ true → number r ≡ k) → AllByRecursion (λ r. number r ≡ k) (rows_at number rows k) → AllByRecursion (λ r. number r ≡ k) (cond t (r ∷ rows_at number rows k) (rows_at number rows k))
      step true h e = (h refl, e)
      step false h e = e
