-- The numbers of a list in rising order.
use Rattle.std.proofs.Common.{◌≡◌, ℕ, zero, suc, ◌+◌, ◌<◌, ◌≤◌, Bool, true, false, ◌||◌, cond, eqb, ltb, List, [], ◌∷◌, length, get_or, inl, inr, refl, ap, sym, ◌∙◌, arith}
use Rattle.std.specs.List.{list_any, AllByRecursion}
use Rattle.std.specs.List.Sorted.{IsStrictlyIncreasing}
use Rattle.std.proofs.lemmas.Bool.{cases_lt, cases_order, cond-true, cond-false, false≢true, lt-ltb, le-ltb, eq-eqb, ne_eqb}
use Rattle.spl_words.specs.Rising.{among, put_number, rising}

-- each number is below all that stand behind it
abbrev pub Rises : List ℕ → Type 0
Rises [] = Unit {0}
Rises (x ∷ l) = AllByRecursion (λ y. x < y) l × Rises l

put-nil : (x : ℕ) → put_number x [] ≡ x ∷ []
unfolding put_number
put-nil x = refl

put-before : (x y : ℕ) (l : List ℕ) → x < y → put_number x (y ∷ l) ≡ x ∷ y ∷ l
unfolding put_number
put-before x y l h = cond-true (ltb x y) (x ∷ y ∷ l) (cond (eqb x y) (y ∷ l) (y ∷ put_number x l)) (lt-ltb x y h)

put-there : (x y : ℕ) (l : List ℕ) → x ≡ y → put_number x (y ∷ l) ≡ y ∷ l
unfolding put_number
put-there x y l h =
    cond-false (ltb x y) (x ∷ y ∷ l) (cond (eqb x y) (y ∷ l) (y ∷ put_number x l)) (le-ltb x y (omega arith))
    ∙ cond-true (eqb x y) (y ∷ l) (y ∷ put_number x l) (eq-eqb x y h)

put-after : (x y : ℕ) (l : List ℕ) → y < x → put_number x (y ∷ l) ≡ y ∷ put_number x l
unfolding put_number
put-after x y l h =
    cond-false (ltb x y) (x ∷ y ∷ l) (cond (eqb x y) (y ∷ l) (y ∷ put_number x l)) (le-ltb x y (omega arith))
    ∙ cond-false (eqb x y) (y ∷ l) (y ∷ put_number x l) (ne_eqb x y (λ e. omega arith))

or_swap : (a b c : Bool) → (a || (b || c)) ≡ (b || (a || c))
or_swap true true c = refl
or_swap true false c = refl
or_swap false b c = refl

or_twice : (a b : Bool) → (a || b) ≡ (a || (a || b))
or_twice true b = refl
or_twice false b = refl

any-put : (q : ℕ → Bool) (x : ℕ) (l : List ℕ) → list_any q (put_number x l) ≡ (q x || list_any q l)
any-put q x [] = rw (put-nil x) refl
any-put q x (y ∷ l) =
    elim (cases_order x y) [
      | inl e ↦ rw (put-there x y l e) (or_twice (q y) (list_any q l) ∙ ap (λ z. q z || (q y || list_any q l)) (sym e))
      | inr d ↦ elim d [
        | inl b ↦ rw (put-before x y l b) refl
        | inr a ↦ rw (put-after x y l a) (ap (λ t. q y || t) (any-put q x l) ∙ or_swap (q y) (q x) (list_any q l))
      ]
    ]

pub any-rising : (q : ℕ → Bool) (l : List ℕ) → list_any q (rising l) ≡ list_any q l
unfolding rising
any-rising q [] = refl
any-rising q (x ∷ l) = any-put q x (rising l) ∙ ap (λ t. q x || t) (any-rising q l)

each-put : (P : ℕ → Type 0) (x : ℕ) (l : List ℕ) → P x → AllByRecursion P l → AllByRecursion P (put_number x l)
each-put P x [] p h = rw (put-nil x) (p, tt)
each-put P x (y ∷ l) p h =
    elim (cases_order x y) [
      | inl e ↦ rw (put-there x y l e) h
      | inr d ↦ elim d [
        | inl b ↦ rw (put-before x y l b) (p, h)
        | inr a ↦ rw (put-after x y l a) (h.0, each-put P x l p h.1)
      ]
    ]

above : (x y : ℕ) (l : List ℕ) → x < y → AllByRecursion (λ z. y < z) l → AllByRecursion (λ z. x < z) l
above x y [] h p = tt
above x y (z ∷ l) h p = (lt_lt x y z h p.0, above x y l h p.1)
  where
    lt_lt : (x y z : ℕ) → x < y → y < z → x < z
    lt_lt x y z p q = omega arith

Rises-put : (x : ℕ) (l : List ℕ) → Rises l → Rises (put_number x l)
Rises-put x [] h = rw (put-nil x) (tt, tt)
Rises-put x (y ∷ l) h =
    elim (cases_order x y) [
      | inl e ↦ rw (put-there x y l e) h
      | inr d ↦ elim d [
        | inl b ↦ rw (put-before x y l b) ((b, above x y l b h.0), h)
        | inr a ↦ rw (put-after x y l a) (each-put (λ z. y < z) x l a h.0, Rises-put x l h.1)
      ]
    ]

pub Rises-rising : (l : List ℕ) → Rises (rising l)
unfolding rising
Rises-rising [] = tt
Rises-rising (x ∷ l) = Rises-put x (rising l) (Rises-rising l)

-- ---- rising lists with the same numbers

or_false : (a b : Bool) → a ≡ false → b ≡ false → (a || b) ≡ false
or_false a b p q = cc

above_none : (x z : ℕ) (l : List ℕ) → z ≤ x → AllByRecursion (λ y. x < y) l → among l z ≡ false
above_none x z [] h p = refl
above_none x z (y ∷ l) h p = or_false (eqb y z) (among l z) (ne_eqb y z (not_that x y z h p.0)) (above_none x z l h p.1)
  where
    not_that : (x y z : ℕ) → z ≤ x → x < y → y ≡ z → ⊥
    not_that x y z p q e = omega arith

has_first : (x : ℕ) (l : List ℕ) → among (x ∷ l) x ≡ true
has_first x l = ap (λ b. b || among l x) (eq-eqb x x refl)

lower_absent : (x y : ℕ) (l : List ℕ) → x < y → AllByRecursion (λ z. y < z) l → among (y ∷ l) x ≡ false
lower_absent x y l h p = or_false (eqb y x) (among l x) (ne_eqb y x (λ e. omega arith)) (above_none y x l (omega arith) p)

tails_same : (x y : ℕ) (a b : List ℕ) → x ≡ y → AllByRecursion (λ z. x < z) a → AllByRecursion (λ z. y < z) b → ((z : ℕ) → among (x ∷ a) z ≡ among (y ∷ b) z) → (z : ℕ) → among a z ≡ among b z
tails_same x y a b e p q h z =
    elim (cases_lt x z) [
      | inl l ↦
          let f : eqb x z ≡ false = ne_eqb x z (λ w. omega arith) in
          let g : eqb y z ≡ false = ne_eqb y z (λ w. omega arith) in
          sym (ap (λ t. t || among a z) f) ∙ (h z ∙ ap (λ t. t || among b z) g)
      | inr r ↦ above_none x z a r p ∙ sym (above_none y z b (omega arith) q)
    ]

pub same_rising : (a b : List ℕ) → Rises a → Rises b → ((x : ℕ) → among a x ≡ among b x) → a ≡ b
same_rising [] [] p q h = refl
same_rising [] (y ∷ b) p q h = absurd (false≢true (h y ∙ has_first y b))
same_rising (x ∷ a) [] p q h = absurd (false≢true (sym (h x) ∙ has_first x a))
same_rising (x ∷ a) (y ∷ b) p q h =
    elim (cases_order x y) [
      | inl e ↦ ap (λ z. z ∷ a) e ∙ ap (λ l. y ∷ l) (same_rising a b p.1 q.1 (tails_same x y a b e p.0 q.0 h))
      | inr d ↦ elim d [
        | inl l ↦ absurd (false≢true (sym (lower_absent x y b l q.0) ∙ (sym (h x) ∙ has_first x a)))
        | inr g ↦ absurd (false≢true (sym (lower_absent y x a g p.0) ∙ (h y ∙ has_first y b)))
      ]
    ]

-- ---- by places

below_first : (x k : ℕ) (l : List ℕ) → AllByRecursion (λ y. x < y) l → k < length l → x < get_or l k 0
below_first x k [] p h = absurd (omega arith)
below_first x zero (y ∷ l) p h = p.0
below_first x (suc k) (y ∷ l) p h = below_first x k l p.1 (omega arith)

pub increases : (l : List ℕ) → Rises l → IsStrictlyIncreasing l
increases [] p k h = absurd (omega arith)
increases (x ∷ l) p zero h = below_first x 0 l p.0 (omega arith)
increases (x ∷ l) p (suc k) h = let next : suc k + 1 ≡ suc (k + 1) = omega arith in rw next (increases l p.1 k (omega arith))
