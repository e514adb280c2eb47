-- Entries in order.
use Rattle.std.proofs.Common.{◌≡◌, ◌≢◌, ℕ, zero, suc, ◌+◌, true, false, cond, List, [], ◌∷◌, ◌++◌, take, inl, inr, refl, ap, sym, ◌∙◌, arith, ◌⊎◌}
use Rattle.std.specs.List.{AllByRecursion}
use Rattle.std.proofs.lemmas.Bool.{cases_Bool, cond-true, cond-false}
use Rattle.std.proofs.lemmas.Bool.Decides.{nat_tests}
use Rattle.std.proofs.lemmas.List.{take-take}
use Rattle.cell_merge.specs.declared.entry.Entry.{Entry}
use Rattle.cell_merge.specs.Entries.{before, insertion, ordered, in_order}
use Rattle.cell_merge.proofs.Lists.{each_weaker}

pub before-asym : (x y : Entry) → before x y ≡ true → before y x ≡ false
unfolding before
before-asym x y h = grind (arith, nat_tests)

pub before-through : (x y z : Entry) → before x y ≡ false → before y z ≡ false → before x z ≡ false
unfolding before
before-through x y z h k = grind (arith, nat_tests)

pub before_either : (x y : Entry) → x.place ≢ y.place → (before x y ≡ true) ⊎ (before y x ≡ true)
unfolding before
before_either x y h = grind (arith, nat_tests)

pub put-behind : (x y : Entry) (ys : List Entry) → before y x ≡ true → insertion before x (y ∷ ys) ≡ y ∷ insertion before x ys
unfolding insertion
put-behind x y ys h = cond-true (before y x) (y ∷ insertion before x ys) (x ∷ y ∷ ys) h

pub put-ahead : (x y : Entry) (ys : List Entry) → before y x ≡ false → insertion before x (y ∷ ys) ≡ x ∷ y ∷ ys
unfolding insertion
put-ahead x y ys h = cond-false (before y x) (y ∷ insertion before x ys) (x ∷ y ∷ ys) h

pub put-nil : (x : Entry) → insertion before x [] ≡ x ∷ []
unfolding insertion
put-nil x = refl

put_put_step : (x y z : Entry) (l : List Entry) → before x y ≡ true → insertion before x (insertion before y l) ≡ insertion before y (insertion before x l)
    → insertion before x (insertion before y (z ∷ l)) ≡ insertion before y (insertion before x (z ∷ l))
put_put_step x y z l h ih =
    let yx = before-asym x y h in
    elim (cases_Bool (before z y)) [
      | inl p ↦ elim (cases_Bool (before z x)) [
        | inl r ↦ cc (put-behind y z l p, put-behind x z l r, put-behind x z (insertion before y l) r, put-behind y z (insertion before x l) p)
        | inr s ↦ cc (put-behind y z l p, put-ahead x z l s, put-ahead x z (insertion before y l) s, put-behind y x (z ∷ l) h)
      ]
      | inr q ↦
          let s = before-through z y x q yx in
          cc (put-ahead y z l q, put-ahead x z l s, put-ahead x y (z ∷ l) yx, put-behind y x (z ∷ l) h)
    ]

pub put_put : (x y : Entry) (l : List Entry) → before x y ≡ true → insertion before x (insertion before y l) ≡ insertion before y (insertion before x l)
put_put x y [] h = cc (put-nil x, put-nil y, put-ahead x y [] (before-asym x y h), put-behind y x [] h)
put_put x y (z ∷ l) h = put_put_step x y z l h (put_put x y l h)

pub put_comm : (x y : Entry) (l : List Entry) → x.place ≢ y.place → insertion before x (insertion before y l) ≡ insertion before y (insertion before x l)
put_comm x y l h = elim (before_either x y h) [ inl p ↦ put_put x y l p | inr q ↦ sym (put_put y x l q) ]

take_cons_take : (k : ℕ) (y : Entry) (l : List Entry) → take k (y ∷ l) ≡ take k (y ∷ take k l)
take_cons_take zero y l = refl
take_cons_take (suc k) y l = ap (λ r. y ∷ r) (sym (take-take k (suc k) l (omega arith)))

take_put_step : (k : ℕ) (x y : Entry) (l : List Entry) → take k (insertion before x l) ≡ take k (insertion before x (take k l)) → take (suc k) (insertion before x (y ∷ l)) ≡ take (suc k) (insertion before x (y ∷ take k l))
take_put_step k x y l ih =
    elim (cases_Bool (before y x)) [
      | inl p ↦ rw (put-behind x y l p, put-behind x y (take k l) p) (ap (λ r. y ∷ r) ih)
      | inr q ↦ rw (put-ahead x y l q, put-ahead x y (take k l) q) (ap (λ r. x ∷ r) (take_cons_take k y l))
    ]

-- the first k after one is put in need only the first k before
pub take-put : (k : ℕ) (x : Entry) (l : List Entry) → take k (insertion before x l) ≡ take k (insertion before x (take k l))
take-put zero x l = refl
take-put (suc k) x [] = refl
take-put (suc k) x (y ∷ l) = take_put_step k x y l (take-put k x l)

-- what a list of entries makes of entries in order
unfoldable pub puts : List Entry → List Entry → List Entry
puts [] l = l
puts (x ∷ xs) l = insertion before x (puts xs l)

pub in_order-append : (a b : List Entry) → in_order (a ++ b) ≡ puts a (in_order b)
unfolding ordered puts
in_order-append [] b = refl
in_order-append (x ∷ a) b = ap (λ r. insertion before x r) (in_order-append a b)

pub take-puts : (k : ℕ) (a l : List Entry) → take k (puts a l) ≡ take k (puts a (take k l))
unfolding puts
take-puts k [] l = sym (take-take k k l (omega arith))
take-puts k (x ∷ a) l =
    take-put k x (puts a l) ∙ (ap (λ r. take k (insertion before x r)) (take-puts k a l) ∙ sym (take-put k x (puts a (take k l))))

-- ---- lists that are in order

abbrev pub InOrder : List Entry → Type 0
InOrder [] = Unit {0}
InOrder (x ∷ xs) = AllByRecursion (λ y. before y x ≡ false) xs × InOrder xs

pub put_first : (x : Entry) (l : List Entry) → AllByRecursion (λ y. before y x ≡ false) l → insertion before x l ≡ x ∷ l
put_first x [] h = put-nil x
put_first x (y ∷ l) h = put-ahead x y l h.0

pub in_order_fixed : (l : List Entry) → InOrder l → in_order l ≡ l
unfolding ordered
in_order_fixed [] h = refl
in_order_fixed (x ∷ l) h = ap (λ r. insertion before x r) (in_order_fixed l h.1) ∙ put_first x l h.0

pub each-put : (P : Entry → Type 0) (x : Entry) (l : List Entry) → P x → AllByRecursion P l → AllByRecursion P (insertion before x l)
each-put P x [] p h = rw (put-nil x) (p, tt)
each-put P x (y ∷ l) p h =
    let rest : AllByRecursion P (insertion before x l) = each-put P x l p h.1 in
    elim (cases_Bool (before y x)) [
      | inl t ↦ rw (put-behind x y l t) (h.0, rest)
      | inr f ↦ rw (put-ahead x y l f) (p, h)
    ]

pub each-in_order : (P : Entry → Type 0) (l : List Entry) → AllByRecursion P l → AllByRecursion P (in_order l)
unfolding ordered
each-in_order P [] h = tt
each-in_order P (x ∷ l) h = each-put P x (in_order l) h.0 (each-in_order P l h.1)

pub InOrder-put : (x : Entry) (l : List Entry) → InOrder l → InOrder (insertion before x l)
InOrder-put x [] h = rw (put-nil x) (tt, tt)
InOrder-put x (y ∷ l) h =
    let rest : InOrder (insertion before x l) = InOrder-put x l h.1 in
    elim (cases_Bool (before y x)) [
      | inl t ↦ rw (put-behind x y l t) (each-put (λ z. before z y ≡ false) x l (before-asym y x t) h.0, rest)
      | inr f ↦ rw (put-ahead x y l f) ((f, each_weaker (λ z. before z y ≡ false) (λ z. before z x ≡ false) (λ z p. before-through z y x p f) l h.0), h)
    ]

pub InOrder-in_order : (l : List Entry) → InOrder (in_order l)
unfolding ordered
InOrder-in_order [] = tt
InOrder-in_order (x ∷ l) = InOrder-put x (in_order l) (InOrder-in_order l)
