-- Sums over rows, and how many of them pass a test.
use Rattle.std.proofs.Common.{◌≡◌, ℕ, ◌+◌, ◌<◌, ◌≤◌, ◌⊎◌, Bool, true, false, cond, List, [], ◌∷◌, length, inl, inr, refl, sym, ap, ap₂, subst, ◌∙◌, arith}
use Rattle.std.specs.Prelude.{map, sum_by}
use Rattle.std.specs.List.{AllByRecursion}
use Rattle.std.proofs.lemmas.Bool.{false≢true}
use Rattle.std.proofs.lemmas.List.Sums.{sum_by-cons}
use Rattle.cell_merge.specs.Rows.{Row}

-- a sum over pairs made of rows is a sum over the rows
pub over_rows : (F : ℕ × List ℕ → ℕ) (h : Row → ℕ × List ℕ) (rows : List Row) → sum_by F (map h rows) ≡ sum_by (λ r. F (h r)) rows
over_rows F h [] = refl
over_rows F h (r ∷ rows) = sum_by-cons F (h r) (map h rows) ∙ (ap (λ n. F (h r) + n) (over_rows F h rows) ∙ sym (sum_by-cons (λ q. F (h q)) r rows))

pub same_sums : (f g : Row → ℕ) (rows : List Row) → AllByRecursion (λ r. f r ≡ g r) rows → sum_by f rows ≡ sum_by g rows
same_sums f g [] each = refl
same_sums f g (r ∷ rows) each = sum_by-cons f r rows ∙ (ap₂ (λ m n. m + n) each.0 (same_sums f g rows each.1) ∙ sym (sum_by-cons g r rows))

-- functions that agree at every row
pub agreeing_sums : (f g : Row → ℕ) → ((r : Row) → f r ≡ g r) → (rows : List Row) → sum_by f rows ≡ sum_by g rows
agreeing_sums f g same [] = refl
agreeing_sums f g same (r ∷ rows) = sum_by-cons f r rows ∙ (ap₂ (λ m n. m + n) (same r) (agreeing_sums f g same rows) ∙ sym (sum_by-cons g r rows))

-- no more than 1 for each row
pub sum_most : (f : Row → ℕ) → ((r : Row) → f r ≤ 1) → (rows : List Row) → sum_by f rows ≤ length rows
sum_most f once [] = omega arith
sum_most f once (r ∷ rows) =
    let e = sum_by-cons f r rows in
    let here = once r in
    let more = sum_most f once rows in
    omega (arith, e, here, more)

pub sum_none : (rows : List Row) → sum_by (λ (r : Row). 0) rows ≡ 0
sum_none [] = refl
sum_none (r ∷ rows) = sum_by-cons (λ (q : Row). 0) r rows ∙ ap (λ n. 0 + n) (sum_none rows)

-- ---- how many pass

-- how many of some rows pass a test
abbrev pub count : (Row → Bool) → List Row → ℕ
count passes rows = sum_by (λ r. cond (passes r) 1 0) rows

-- a row is one of some rows
abbrev pub IsIn : Row → List Row → Type 0
IsIn r [] = ⊥
IsIn r (s ∷ rows) = (r ≡ s) ⊎ IsIn r rows

-- what holds of each that is one of them
pub each_in : (P : Row → Type 0) (rows : List Row) → ((r : Row) → IsIn r rows → P r) → AllByRecursion P rows
each_in P [] each = tt
each_in P (r ∷ rows) each = (each r (inl refl), each_in P rows (λ s is. each s (inr is)))

pub at_each : (P : Row → Type 0) (rows : List Row) → AllByRecursion P rows → (r : Row) → IsIn r rows → P r
at_each P [] each r is = absurd is
at_each P (s ∷ rows) each r (inl same) = subst P (sym same) each.0
at_each P (s ∷ rows) each r (inr later) = at_each P rows each.1 r later

one_each : (p q : Bool) → (p ≡ true → q ≡ true) → cond p 1 0 ≤ cond q 1 0
one_each false q h = omega arith
one_each true true h = omega arith
one_each true false h = absurd (false≢true (h refl))

module _ (p q : Row → Bool) (weaker : (r : Row) → p r ≡ true → q r ≡ true) where
  -- a weaker test is passed as often
  pub count_weaker : (rows : List Row) → count p rows ≤ count q rows
  count_weaker [] = omega arith
  count_weaker (r ∷ rows) =
      let one = sum_by-cons (λ s. cond (p s) 1 0) r rows in
      let two = sum_by-cons (λ s. cond (q s) 1 0) r rows in
      let here = one_each (p r) (q r) (weaker r) in
      let more = count_weaker rows in
      omega (arith, one, two, here, more)

  -- and more often, where a row passes it alone
  pub count_fewer : (rows : List Row) (r : Row) → IsIn r rows → p r ≡ false → q r ≡ true → count p rows < count q rows
  count_fewer [] r is fails passes = absurd is
  count_fewer (s ∷ rows) r (inl same) fails passes =
      let one = sum_by-cons (λ s. cond (p s) 1 0) s rows in
      let two = sum_by-cons (λ s. cond (q s) 1 0) s rows in
      let low : cond {A = ℕ} (p s) 1 0 ≡ 0 = ap (λ b. cond b 1 0) (ap p (sym same) ∙ fails) in
      let high : cond {A = ℕ} (q s) 1 0 ≡ 1 = ap (λ b. cond b 1 0) (ap q (sym same) ∙ passes) in
      let more = count_weaker rows in
      omega (arith, one, two, low, high, more)
  count_fewer (s ∷ rows) r (inr later) fails passes =
      let one = sum_by-cons (λ s. cond (p s) 1 0) s rows in
      let two = sum_by-cons (λ s. cond (q s) 1 0) s rows in
      let here = one_each (p s) (q s) (weaker s) in
      let more = count_fewer rows r later fails passes in
      omega (arith, one, two, here, more)
