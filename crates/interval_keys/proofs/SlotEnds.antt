-- The starts and the ends of intervals are the ends of the disjoint ones that hold the same.
use Rattle.std.proofs.Common.{◌≡◌, ℕ, ◌+◌, ◌<◌, ◌≤◌, min, max, Bool, true, false, not, ◌&&◌, ◌||◌, cond, eqb, List, [], ◌∷◌, map, inl, inr, refl, ap, sym, ◌∙◌, arith}
use Rattle.std.specs.List.{filter, list_any, AllByRecursion}
use Rattle.std.proofs.lemmas.Bool.{cases_Bool, cases_lt, false≢true, eqb-true, eq-eqb, or_cases, or_parts, or_left, or_right}
use Rattle.std.proofs.lemmas.Bool.Decides.{nat_tests}
use Rattle.spl_words.specs.Rising.{among}
use Rattle.spl_words.proofs.Rising.{Rises, any-rising, increases, Rises-rising, same_rising}
use Rattle.interval_keys.specs.Intervals.{Span}
use Rattle.interval_keys.specs.Slots.{IsSpan, ListsInOrder, held, holds, is_end, is_start, joined, joins, starts, ends, spans_between}
use Rattle.interval_keys.specs.Merging.{add_spans}
use Rattle.interval_keys.proofs.Merging.{Separated, same_bool, each_weaker, valid-add_spans, Separated-add_spans, each-add_spans, joined-add_spans, held-add_spans}

abbrev pub los : List Span → List ℕ
los l = map (λ s. s.lo) l

abbrev pub his : List Span → List ℕ
his l = map (λ s. s.hi) l

-- ---- members of a filter

any_cond : (q : ℕ → Bool) (t : Bool) (y : ℕ) (l : List ℕ) → list_any q (cond t (y ∷ l) l) ≡ ((t && q y) || list_any q l)
any_cond q true y l = refl
any_cond q false y l = refl

table_same : (u b : Bool) → ((u && true) || (b && u)) ≡ u
table_same true b = refl
table_same false true = refl
table_same false false = refl

table_other : (t b u : Bool) → ((t && false) || (b && u)) ≡ (b && u)
table_other true b u = refl
table_other false b u = refl

filter_table : (p : ℕ → Bool) (x y : ℕ) (b : Bool) → ((p y && eqb y x) || (b && p x)) ≡ ((eqb y x || b) && p x)
filter_table p x y b =
    elim (cases_Bool (eqb y x)) [
      | inl q ↦
          let e : p y ≡ p x = ap p (eqb-true y x q) in
          ap (λ a. (p y && a) || (b && p x)) q ∙ (ap (λ t. (t && true) || (b && p x)) e ∙ (table_same (p x) b ∙ sym (ap (λ a. (a || b) && p x) q)))
      | inr q ↦ ap (λ a. (p y && a) || (b && p x)) q ∙ (table_other (p y) b (p x) ∙ sym (ap (λ a. (a || b) && p x) q))
    ]

among-filter : (p : ℕ → Bool) (l : List ℕ) (x : ℕ) → among (filter p l) x ≡ (among l x && p x)
among-filter p [] x = refl
among-filter p (y ∷ l) x =
    any_cond (λ z. eqb z x) (p y) y (filter p l)
    ∙ (ap (λ b. (p y && eqb y x) || b) (among-filter p l x) ∙ filter_table p x y (among l x))

-- ---- the disjoint intervals have ends of the whole

min_is : (P : ℕ → Type 0) (a b : ℕ) → P a → P b → P (min a b)
min_is P a b p q = elim (cases_lt a b) [ inl h ↦ (let e : min a b ≡ a = omega arith in rw e p) | inr h ↦ (let e : min a b ≡ b = omega arith in rw e q) ]

max_is : (P : ℕ → Type 0) (a b : ℕ) → P a → P b → P (max a b)
max_is P a b p q = elim (cases_lt a b) [ inl h ↦ (let e : max a b ≡ b = omega arith in rw e q) | inr h ↦ (let e : max a b ≡ a = omega arith in rw e p) ]

own : (f : Span → ℕ) (l : List Span) → AllByRecursion (λ u. among (map f l) (f u) ≡ true) l
own f [] = tt
own f (s ∷ l) = (
  or_left (eqb (f s) (f s)) (among (map f l) (f s)) (eq-eqb (f s) (f s) refl),
  each_weaker (λ u. among (map f l) (f u) ≡ true) (λ u. among (map f (s ∷ l)) (f u) ≡ true) (λ u h. or_right (eqb (f s) (f u)) (among (map f l) (f u)) h) l (own f l),
)

member : (f : Span → ℕ) (k : List ℕ) (l : List Span) (z : ℕ) → AllByRecursion (λ u. among k (f u) ≡ true) l → among (map f l) z ≡ true → among k z ≡ true
member f k [] z h e = absurd (false≢true e)
member f k (s ∷ l) z h e =
    elim (or_cases (eqb (f s) z) (among (map f l) z) e) [
      | inl q ↦ sym (ap (λ x. among k x) (eqb-true (f s) z q)) ∙ h.0
      | inr q ↦ member f k l z h.1 q
    ]

los_of : (l : List Span) → AllByRecursion (λ u. among (los l) u.lo ≡ true) (add_spans [] l)
los_of l = each-add_spans (λ u. among (los l) u.lo ≡ true) (λ s t a b p q. min_is (λ x. among (los l) x ≡ true) s.lo t.lo p q) [] l tt (own (λ s. s.lo) l)

his_of : (l : List Span) → AllByRecursion (λ u. among (his l) u.hi ≡ true) (add_spans [] l)
his_of l = each-add_spans (λ u. among (his l) u.hi ≡ true) (λ s t a b p q. max_is (λ x. among (his l) x ≡ true) s.hi t.hi p q) [] l tt (own (λ s. s.hi) l)

-- ---- held and joined

lo_held : (z : ℕ) (s : Span) → s.lo ≤ s.hi → eqb s.lo z ≡ true → holds z s ≡ true
lo_held z s h e = grind (arith, nat_tests)

hi_held : (z : ℕ) (s : Span) → s.lo ≤ s.hi → eqb s.hi z ≡ true → holds z s ≡ true
hi_held z s h e = grind (arith, nat_tests)

held_lo : (z : ℕ) (s : Span) → holds z s ≡ true → joins z s ≡ false → eqb s.lo z ≡ true
held_lo z s h e = grind (arith, nat_tests)

held_hi : (z : ℕ) (s : Span) → holds z s ≡ true → joins (z + 1) s ≡ false → eqb s.hi z ≡ true
held_hi z s h e = grind (arith, nat_tests)

has_held : (f : Span → ℕ) → ((z : ℕ) (s : Span) → s.lo ≤ s.hi → eqb (f s) z ≡ true → holds z s ≡ true)
    → (l : List Span) (z : ℕ) → AllByRecursion IsSpan l → among (map f l) z ≡ true → held l z ≡ true
has_held f g [] z v e = absurd (false≢true e)
has_held f g (s ∷ l) z v e =
    elim (or_cases (eqb (f s) z) (among (map f l) z) e) [
      | inl q ↦ or_left (holds z s) (held l z) (g z s v.0 q)
      | inr q ↦ or_right (holds z s) (held l z) (has_held f g l z v.1 q)
    ]

held_has : (f : Span → ℕ) (g : ℕ → ℕ) → ((z : ℕ) (s : Span) → holds z s ≡ true → joins (g z) s ≡ false → eqb (f s) z ≡ true)
    → (l : List Span) (z : ℕ) → held l z ≡ true → joined l (g z) ≡ false → among (map f l) z ≡ true
held_has f g k [] z h e = absurd (false≢true h)
held_has f g k (s ∷ l) z h e =
    let parts = or_parts (joins (g z) s) (joined l (g z)) e in
    elim (or_cases (holds z s) (held l z) h) [
      | inl q ↦ or_left (eqb (f s) z) (among (map f l) z) (k z s q parts.0)
      | inr q ↦ or_right (eqb (f s) z) (among (map f l) z) (held_has f g k l z q parts.1)
    ]

-- an end of one of separate intervals is joined to nothing
pub or_false : (a b : Bool) → a ≡ false → b ≡ false → (a || b) ≡ false
or_false a b p q = cc

far_join : (z n : ℕ) (u : Span) → z ≤ n + 1 → n < u.lo → joins z u ≡ false
far_join z n u h k = grind (arith, nat_tests)

far_joined : (z n : ℕ) (l : List Span) → z ≤ n + 1 → AllByRecursion (λ u. n < u.lo) l → joined l z ≡ false
far_joined z n [] h k = refl
far_joined z n (u ∷ l) h k = or_false (joins z u) (joined l z) (far_join z n u h k.0) (far_joined z n l h k.1)

low_join : (z : ℕ) (s : Span) → s.hi < z → joins z s ≡ false
low_join z s h = grind (arith, nat_tests)

lo_alone : (z : ℕ) (s : Span) → eqb s.lo z ≡ true → joins z s ≡ false
lo_alone z s e = grind (arith, nat_tests)

hi_alone : (z : ℕ) (s : Span) → eqb s.hi z ≡ true → joins (z + 1) s ≡ false
hi_alone z s e = grind (arith, nat_tests)

at_lo : (z n : ℕ) (u : Span) → n < u.lo → eqb u.lo z ≡ true → n < z
at_lo z n u h e = grind (arith, nat_tests)

at_hi : (z n : ℕ) (u : Span) → u.lo ≤ u.hi → n < u.lo → eqb u.hi z ≡ true → n < z
at_hi z n u v h e = grind (arith, nat_tests)

far_lo : (z n : ℕ) (l : List Span) → AllByRecursion (λ u. n < u.lo) l → among (los l) z ≡ true → n < z
far_lo z n [] h e = absurd (false≢true e)
far_lo z n (u ∷ l) h e = elim (or_cases (eqb u.lo z) (among (los l) z) e) [ inl q ↦ at_lo z n u h.0 q | inr q ↦ far_lo z n l h.1 q ]

far_hi : (z n : ℕ) (l : List Span) → AllByRecursion IsSpan l → AllByRecursion (λ u. n < u.lo) l → among (his l) z ≡ true → n < z
far_hi z n [] v h e = absurd (false≢true e)
far_hi z n (u ∷ l) v h e = elim (or_cases (eqb u.hi z) (among (his l) z) e) [ inl q ↦ at_hi z n u v.0 h.0 q | inr q ↦ far_hi z n l v.1 h.1 q ]

near_lo : (z : ℕ) (s : Span) → s.lo ≤ s.hi → eqb s.lo z ≡ true → z ≤ s.hi + 1
near_lo z s v e = grind (arith, nat_tests)

near_hi : (z : ℕ) (s : Span) → eqb s.hi z ≡ true → z + 1 ≤ s.hi + 1
near_hi z s e = grind (arith, nat_tests)

alone_lo : (l : List Span) (z : ℕ) → AllByRecursion IsSpan l → Separated l → among (los l) z ≡ true → joined l z ≡ false
alone_lo [] z v d e = refl
alone_lo (s ∷ l) z v d e =
    elim (or_cases (eqb s.lo z) (among (los l) z) e) [
      | inl q ↦ or_false (joins z s) (joined l z) (lo_alone z s q) (far_joined z s.hi l (near_lo z s v.0 q) d.0)
      | inr q ↦ or_false (joins z s) (joined l z) (low_join z s (far_lo z s.hi l d.0 q)) (alone_lo l z v.1 d.1 q)
    ]

above_one : (a z : ℕ) → a < z → a < z + 1
above_one a z h = omega arith

alone_hi : (l : List Span) (z : ℕ) → AllByRecursion IsSpan l → Separated l → among (his l) z ≡ true → joined l (z + 1) ≡ false
alone_hi [] z v d e = refl
alone_hi (s ∷ l) z v d e =
    elim (or_cases (eqb s.hi z) (among (his l) z) e) [
      | inl q ↦ or_false (joins (z + 1) s) (joined l (z + 1)) (hi_alone z s q) (far_joined (z + 1) s.hi l (near_hi z s q) d.0)
      | inr q ↦ or_false (joins (z + 1) s) (joined l (z + 1)) (low_join (z + 1) s (above_one s.hi z (far_hi z s.hi l v.1 d.0 q))) (alone_hi l z v.1 d.1 q)
    ]

-- ---- the ends of separate intervals rise

Rises_los : (l : List Span) → AllByRecursion IsSpan l → Separated l → Rises (los l)
Rises_los [] v d = tt
Rises_los (s ∷ l) v d = (each_lo s l v.0 d.0, Rises_los l v.1 d.1)
  where
    later : (s u : Span) → s.lo ≤ s.hi → s.hi < u.lo → s.lo < u.lo
    later s u p q = omega arith

    each_lo : (s : Span) (l : List Span) → s.lo ≤ s.hi → AllByRecursion (λ u. s.hi < u.lo) l → AllByRecursion (λ y. s.lo < y) (los l)
    each_lo s [] p h = tt
    each_lo s (u ∷ l) p h = (later s u p h.0, each_lo s l p h.1)

Rises_his : (l : List Span) → AllByRecursion IsSpan l → Separated l → Rises (his l)
Rises_his [] v d = tt
Rises_his (s ∷ l) v d = (each_hi s l v.1 d.0, Rises_his l v.1 d.1)
  where
    later : (s u : Span) → u.lo ≤ u.hi → s.hi < u.lo → s.hi < u.hi
    later s u p q = omega arith

    each_hi : (s : Span) (l : List Span) → AllByRecursion IsSpan l → AllByRecursion (λ u. s.hi < u.lo) l → AllByRecursion (λ y. s.hi < y) (his l)
    each_hi s [] p h = tt
    each_hi s (u ∷ l) p h = (later s u p.0 h.0, each_hi s l p.1 h.1)

-- ---- the slots

not_true : (b : Bool) → not b ≡ true → b ≡ false
not_true true e = absurd (false≢true e)
not_true false e = refl

not_false : (b : Bool) → b ≡ false → not b ≡ true
not_false b e = cc

both : (a b : Bool) → (a && b) ≡ true → (a ≡ true) × (b ≡ true)
both true true e = (refl, refl)
both true false e = absurd (false≢true e)
both false b e = absurd (false≢true e)

and_true : (a b : Bool) → a ≡ true → b ≡ true → (a && b) ≡ true
and_true a b p q = cc

-- the starts and the ends rise, and are the numbers that their tests pass
pub starts_in_order : (l : List Span) → ListsInOrder (is_start l) (starts l)
starts_in_order l =
    let p : ℕ → Bool = λ x. not (joined l x) in record {
      rises = increases (starts l) (Rises-rising (filter p (los l)));
      holds_them = λ x. any-rising (λ y. eqb y x) (filter p (los l)) ∙ among-filter p (los l) x;
    }

pub ends_in_order : (l : List Span) → ListsInOrder (is_end l) (ends l)
ends_in_order l =
    let p : ℕ → Bool = λ x. not (joined l (x + 1)) in record {
      rises = increases (ends l) (Rises-rising (filter p (his l)));
      holds_them = λ x. any-rising (λ y. eqb y x) (filter p (his l)) ∙ among-filter p (his l) x;
    }

pub starts_are : (l : List Span) → AllByRecursion IsSpan l → starts l ≡ los (add_spans [] l)
starts_are l v =
    let d = add_spans [] l in
    let vd = valid-add_spans [] l tt v in
    let sd = Separated-add_spans [] l tt v tt in
    let p : ℕ → Bool = λ x. not (joined l x) in
    same_rising (starts l) (los d) (Rises-rising (filter p (los l))) (Rises_los d vd sd)
    (λ z. any-rising (λ y. eqb y z) (filter p (los l)) ∙ (among-filter p (los l) z ∙ same_bool (among (los l) z && p z) (among (los d) z)
    (λ e. let b = both (among (los l) z) (p z) e in
    held_has (λ s. s.lo) (λ x. x) held_lo d z (held-add_spans l z v ∙ has_held (λ s. s.lo) lo_held l z v b.0) (joined-add_spans l z v ∙ not_true (joined l z) b.1))
    (λ e. and_true (among (los l) z) (p z) (member (λ s. s.lo) (los l) d z (los_of l) e) (not_false (joined l z) (sym (joined-add_spans l z v) ∙ alone_lo d z vd sd e)))))

pub ends_are : (l : List Span) → AllByRecursion IsSpan l → ends l ≡ his (add_spans [] l)
ends_are l v =
    let d = add_spans [] l in
    let vd = valid-add_spans [] l tt v in
    let sd = Separated-add_spans [] l tt v tt in
    let p : ℕ → Bool = λ x. not (joined l (x + 1)) in
    same_rising (ends l) (his d) (Rises-rising (filter p (his l))) (Rises_his d vd sd)
    (λ z. any-rising (λ y. eqb y z) (filter p (his l)) ∙ (among-filter p (his l) z ∙ same_bool (among (his l) z && p z) (among (his d) z)
    (λ e. let b = both (among (his l) z) (p z) e in
    held_has (λ s. s.hi) (λ x. x + 1) held_hi d z (held-add_spans l z v ∙ has_held (λ s. s.hi) hi_held l z v b.0) (joined-add_spans l (z + 1) v ∙ not_true (joined l (z + 1)) b.1))
    (λ e. and_true (among (his l) z) (p z) (member (λ s. s.hi) (his l) d z (his_of l) e) (not_false (joined l (z + 1)) (sym (joined-add_spans l (z + 1) v) ∙ alone_hi d z vd sd e)))))

between_own : (l : List Span) → spans_between (los l) (his l) ≡ l
unfolding spans_between
between_own [] = refl
between_own (s ∷ l) = ap (λ r. s ∷ r) (between_own l)

-- the intervals between starts and ends are those that the additions leave
pub spans_between-ends : (l : List Span) → AllByRecursion IsSpan l → spans_between (starts l) (ends l) ≡ add_spans [] l
spans_between-ends l v = ap (λ r. spans_between r (ends l)) (starts_are l v) ∙ (ap (λ r. spans_between (los (add_spans [] l)) r) (ends_are l v) ∙ between_own (add_spans [] l))
