-- Lists in an order, one item at a time from the front.
use Rattle.std.proofs.Common.{◌≡◌, ℕ, zero, suc, ◌+◌, Bool, true, false, List, [], ◌∷◌, ◌++◌, take, inl, inr, refl, ap, sym, ◌∙◌, arith}
use Rattle.std.proofs.lemmas.Bool.{cases_Bool, cond-true, cond-false, false≢true}
use Rattle.std.proofs.lemmas.List.{take-take}
use Rattle.cell_merge.specs.Entries.{Ranks, late_insertion, ordered, insertion}

module _ {A : Type 0} (before : A → A → Bool) (o : Ranks before) where
  placed-later : (x y : A) (ys : List A) → before y x ≡ true → insertion before x (y ∷ ys) ≡ y ∷ insertion before x ys
  unfolding insertion
  placed-later x y ys h = cond-true (before y x) (y ∷ insertion before x ys) (x ∷ y ∷ ys) h

  placed-first : (x y : A) (ys : List A) → before y x ≡ false → insertion before x (y ∷ ys) ≡ x ∷ y ∷ ys
  unfolding insertion
  placed-first x y ys h = cond-false (before y x) (y ∷ insertion before x ys) (x ∷ y ∷ ys) h

  placed-nil : (x : A) → insertion before x [] ≡ x ∷ []
  unfolding insertion
  placed-nil x = refl

  pub inserted-first : (x y : A) (ys : List A) → before x y ≡ true → late_insertion before x (y ∷ ys) ≡ x ∷ y ∷ ys
  unfolding late_insertion
  inserted-first x y ys h = cond-true (before x y) (x ∷ y ∷ ys) (y ∷ late_insertion before x ys) h

  pub inserted-later : (x y : A) (ys : List A) → before x y ≡ false → late_insertion before x (y ∷ ys) ≡ y ∷ late_insertion before x ys
  unfolding late_insertion
  inserted-later x y ys h = cond-false (before x y) (x ∷ y ∷ ys) (y ∷ late_insertion before x ys) h

  pub inserted-nil : (x : A) → late_insertion before x [] ≡ x ∷ []
  unfolding late_insertion
  inserted-nil x = refl

  between : (x y z : A) → before x z ≡ true → before z y ≡ true → before x y ≡ true
  between x y z p q =
      elim (cases_Bool (before x y)) [
        | inl t ↦ t
        | inr f ↦ absurd (false≢true (sym (o.through x y z f (o.asym z y q)) ∙ p))
      ]

  step : (x y z : A) (l : List A) → insertion before y (late_insertion before x l) ≡ late_insertion before x (insertion before y l)
      → insertion before y (late_insertion before x (z ∷ l)) ≡ late_insertion before x (insertion before y (z ∷ l))
  step x y z l ih =
      elim (cases_Bool (before z y)) [
        | inl zy ↦ elim (cases_Bool (before x z)) [
          | inl xz ↦ cc (inserted-first x z l xz, placed-later y z l zy, inserted-first x z (insertion before y l) xz, placed-later y x (z ∷ l) (between x y z xz zy))
          | inr xz ↦ cc (inserted-later x z l xz, placed-later y z l zy, inserted-later x z (insertion before y l) xz, placed-later y z (late_insertion before x l) zy)
        ]
        | inr zy ↦ elim (cases_Bool (before x z)) [
          | inl xz ↦ elim (cases_Bool (before x y)) [
            | inl xy ↦ cc (inserted-first x z l xz, placed-first y z l zy, placed-later y x (z ∷ l) xy, inserted-first x y (z ∷ l) xy)
            | inr xy ↦ cc (inserted-first x z l xz, placed-first y z l zy, placed-first y x (z ∷ l) xy, inserted-later x y (z ∷ l) xy)
          ]
          | inr xz ↦ elim (cases_Bool (before x y)) [
            | inl xy ↦ absurd (false≢true (sym (o.through x z y xz zy) ∙ xy))
            | inr xy ↦ cc (inserted-later x z l xz, placed-first y z l zy, placed-first y z (late_insertion before x l) zy, inserted-later x y (z ∷ l) xy)
          ]
        ]
      ]

  swapped : (x y : A) (l : List A) → insertion before y (late_insertion before x l) ≡ late_insertion before x (insertion before y l)
  swapped x y [] =
      elim (cases_Bool (before x y)) [
        | inl xy ↦ cc (inserted-nil x, placed-nil y, inserted-first x y [] xy, placed-later y x [] xy)
        | inr xy ↦ cc (inserted-nil x, placed-nil y, inserted-later x y [] xy, placed-first y x [] xy)
      ]
  swapped x y (z ∷ l) = step x y z l (swapped x y l)

  pub ordered-push : (x : A) (l : List A) → ordered before (l ++ x ∷ []) ≡ late_insertion before x (ordered before l)
  unfolding ordered
  ordered-push x [] = placed-nil x ∙ sym (inserted-nil x)
  ordered-push x (y ∷ l) = ap (λ r. insertion before y r) (ordered-push x l) ∙ swapped x y (ordered before l)

  take_cons : (k : ℕ) (y : A) (l : List A) → take k (y ∷ l) ≡ take k (y ∷ take k l)
  take_cons zero y l = refl
  take_cons (suc k) y l = ap (λ r. y ∷ r) (sym (take-take k (suc k) l (omega arith)))

  take_step : (k : ℕ) (x y : A) (l : List A) → take k (late_insertion before x l) ≡ take k (late_insertion before x (take k l)) → take (suc k) (late_insertion before x (y ∷ l)) ≡ take (suc k) (late_insertion before x (y ∷ take k l))
  take_step k x y l ih =
      elim (cases_Bool (before x y)) [
        | inl p ↦ rw (inserted-first x y l p, inserted-first x y (take k l) p) (ap (λ r. x ∷ r) (take_cons k y l))
        | inr q ↦ rw (inserted-later x y l q, inserted-later x y (take k l) q) (ap (λ r. y ∷ r) ih)
      ]

  pub take-inserted : (k : ℕ) (x : A) (l : List A) → take k (late_insertion before x l) ≡ take k (late_insertion before x (take k l))
  take-inserted zero x l = refl
  take-inserted (suc k) x [] = refl
  take-inserted (suc k) x (y ∷ l) = take_step k x y l (take-inserted k x l)

  -- one more item among the first k
  pub best_more : (k : ℕ) (x : A) (l : List A) → take k (late_insertion before x (take k (ordered before l))) ≡ take k (ordered before (l ++ x ∷ []))
  best_more k x l = sym (take-inserted k x (ordered before l)) ∙ ap (λ r. take k r) (sym (ordered-push x l))
