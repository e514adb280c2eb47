-- Intervals added to disjoint ones: the cases of an addition, and what it keeps.
use Rattle.std.proofs.Common.{◌≡◌, ℕ, ◌+◌, ◌<◌, ◌≤◌, min, max, Bool, true, false, ◌||◌, cond, ltb, List, [], ◌∷◌, length, inl, inr, refl, ap, sym, ◌∙◌, arith}
use Rattle.std.specs.List.{list_any, AllByRecursion}
use Rattle.std.proofs.lemmas.Bool.{cases_lt, cond-true, cond-false, lt-ltb, le-ltb}
use Rattle.std.proofs.lemmas.Bool.Decides.{nat_tests}
use Rattle.interval_keys.specs.Intervals.{Span}
use Rattle.interval_keys.specs.Slots.{IsSpan, held, holds, joins, joined}
use Rattle.interval_keys.specs.Merging.{hull, add_span, add_spans}

-- each interval ends before all that stand behind it begin
abbrev pub Separated : List Span → Type 0
Separated [] = Unit {0}
Separated (t ∷ l) = AllByRecursion (λ u. t.hi < u.lo) l × Separated l

-- ---- the cases of `add_span`

pub add_span-later : (s t : Span) (l : List Span) → t.hi < s.lo → add_span s (t ∷ l) ≡ t ∷ add_span s l
unfolding add_span
add_span-later s t l h = cond-true (ltb t.hi s.lo) (t ∷ add_span s l) (cond (ltb s.hi t.lo) (s ∷ t ∷ l) (add_span (hull s t) l)) (lt-ltb t.hi s.lo h)

pub add_span-here : (s t : Span) (l : List Span) → s.lo ≤ t.hi → s.hi < t.lo → add_span s (t ∷ l) ≡ s ∷ t ∷ l
unfolding add_span
add_span-here s t l h k =
    cond-false (ltb t.hi s.lo) (t ∷ add_span s l) (cond (ltb s.hi t.lo) (s ∷ t ∷ l) (add_span (hull s t) l)) (le-ltb t.hi s.lo h)
    ∙ cond-true (ltb s.hi t.lo) (s ∷ t ∷ l) (add_span (hull s t) l) (lt-ltb s.hi t.lo k)

pub add_span-both : (s t : Span) (l : List Span) → s.lo ≤ t.hi → t.lo ≤ s.hi → add_span s (t ∷ l) ≡ add_span (hull s t) l
unfolding add_span
add_span-both s t l h k =
    cond-false (ltb t.hi s.lo) (t ∷ add_span s l) (cond (ltb s.hi t.lo) (s ∷ t ∷ l) (add_span (hull s t) l)) (le-ltb t.hi s.lo h)
    ∙ cond-false (ltb s.hi t.lo) (s ∷ t ∷ l) (add_span (hull s t) l) (le-ltb s.hi t.lo k)

pub add_span-nil : (s : Span) → add_span s [] ≡ s ∷ []
unfolding add_span
add_span-nil s = refl

-- ---- what is joined, what is held

hull-joins : (x : ℕ) (s t : Span) → s.lo ≤ s.hi → t.lo ≤ t.hi → s.lo ≤ t.hi → t.lo ≤ s.hi → joins x (hull s t) ≡ (joins x s || joins x t)
hull-joins x s t p q h k = grind (arith, nat_tests)

hull-holds : (x : ℕ) (s t : Span) → s.lo ≤ s.hi → t.lo ≤ t.hi → s.lo ≤ t.hi → t.lo ≤ s.hi → holds x (hull s t) ≡ (holds x s || holds x t)
hull-holds x s t p q h k = grind (arith, nat_tests)

hull-valid : (s t : Span) → s.lo ≤ s.hi → t.lo ≤ t.hi → min s.lo t.lo ≤ max s.hi t.hi
hull-valid s t p q = omega arith

or_assoc : (a b c : Bool) → ((a || b) || c) ≡ (a || (b || c))
or_assoc true b c = refl
or_assoc false b c = refl

or_swap : (a b c : Bool) → (a || (b || c)) ≡ (b || (a || c))
or_swap true true c = refl
or_swap true false c = refl
or_swap false b c = refl

pub same_bool : (a b : Bool) → (a ≡ true → b ≡ true) → (b ≡ true → a ≡ true) → a ≡ b
same_bool true true p q = refl
same_bool true false p q = sym (p refl)
same_bool false true p q = q refl
same_bool false false p q = refl

-- ---- what `add_span` keeps

pub each_weaker : {A : Type 0} (P Q : A → Type 0) → ((x : A) → P x → Q x) → (xs : List A) → AllByRecursion P xs → AllByRecursion Q xs
each_weaker P Q f [] h = tt
each_weaker P Q f (x ∷ xs) h = (f x h.0, each_weaker P Q f xs h.1)

-- the hull of two that meet has P where both have
abbrev pub Joins : (Span → Type 0) → Type 0
Joins P = (s t : Span) → s.lo ≤ t.hi → t.lo ≤ s.hi → P s → P t → P (hull s t)

pub each-add_span : (P : Span → Type 0) → Joins P → (s : Span) (l : List Span) → P s → AllByRecursion P l → AllByRecursion P (add_span s l)
each-add_span P f s [] p h = rw (add_span-nil s) (p, tt)
each-add_span P f s (t ∷ l) p h =
    elim (cases_lt t.hi s.lo) [
      | inl a ↦ rw (add_span-later s t l a) (h.0, each-add_span P f s l p h.1)
      | inr a ↦ elim (cases_lt s.hi t.lo) [
        | inl b ↦ rw (add_span-here s t l a b) (p, h)
        | inr b ↦ rw (add_span-both s t l a b) (each-add_span P f (hull s t) l (f s t a b p h.0) h.1)
      ]
    ]

pub valid-add_span : (s : Span) (l : List Span) → IsSpan s → AllByRecursion IsSpan l → AllByRecursion IsSpan (add_span s l)
valid-add_span s l p h = each-add_span IsSpan (λ s t a b. hull-valid s t) s l p h

-- a test that the hull of two that meet passes where one of them does
abbrev pub Hulls : (Span → Bool) → Type 0
Hulls q = (s t : Span) → s.lo ≤ s.hi → t.lo ≤ t.hi → s.lo ≤ t.hi → t.lo ≤ s.hi → q (hull s t) ≡ (q s || q t)

pub any-add_span : (q : Span → Bool) → Hulls q → (s : Span) (l : List Span) → IsSpan s → AllByRecursion IsSpan l → list_any q (add_span s l) ≡ (q s || list_any q l)
any-add_span q f s [] p h = rw (add_span-nil s) refl
any-add_span q f s (t ∷ l) p h =
    elim (cases_lt t.hi s.lo) [
      | inl a ↦ rw (add_span-later s t l a) (ap (λ b. q t || b) (any-add_span q f s l p h.1) ∙ or_swap (q t) (q s) (list_any q l))
      | inr a ↦ elim (cases_lt s.hi t.lo) [
        | inl b ↦ rw (add_span-here s t l a b) refl
        | inr b ↦ rw (add_span-both s t l a b)
            (any-add_span q f (hull s t) l (hull-valid s t p h.0) h.1
            ∙ (ap (λ c. c || list_any q l) (f s t p h.0 a b) ∙ or_assoc (q s) (q t) (list_any q l)))
      ]
    ]

far_hull : (n : ℕ) (s t : Span) → n < s.lo → n < t.lo → n < min s.lo t.lo
far_hull n s t p q = omega arith

far_from : (s t u : Span) → s.hi < t.lo → t.lo ≤ t.hi → t.hi < u.lo → s.hi < u.lo
far_from s t u p q r = omega arith

pub Separated-add_span : (s : Span) (l : List Span) → IsSpan s → AllByRecursion IsSpan l → Separated l → Separated (add_span s l)
Separated-add_span s [] p h d = rw (add_span-nil s) (tt, tt)
Separated-add_span s (t ∷ l) p h d =
    elim (cases_lt t.hi s.lo) [
      | inl a ↦ rw (add_span-later s t l a) (each-add_span (λ u. t.hi < u.lo) (λ u v p q. far_hull t.hi u v) s l a d.0, Separated-add_span s l p h.1 d.1)
      | inr a ↦ elim (cases_lt s.hi t.lo) [
        | inl b ↦ rw (add_span-here s t l a b) ((b, each_weaker (λ u. t.hi < u.lo) (λ u. s.hi < u.lo) (λ u q. far_from s t u b h.0 q) l d.0), d)
        | inr b ↦ rw (add_span-both s t l a b) (Separated-add_span (hull s t) l (hull-valid s t p h.0) h.1 d.1)
      ]
    ]

-- ---- what `add_spans` keeps

pub valid-add_spans : (done l : List Span) → AllByRecursion IsSpan done → AllByRecursion IsSpan l → AllByRecursion IsSpan (add_spans done l)
unfolding add_spans
valid-add_spans done [] d h = d
valid-add_spans done (s ∷ l) d h = valid-add_spans (add_span s done) l (valid-add_span s done h.0 d) h.1

pub Separated-add_spans : (done l : List Span) → AllByRecursion IsSpan done → AllByRecursion IsSpan l → Separated done → Separated (add_spans done l)
unfolding add_spans
Separated-add_spans done [] d h p = p
Separated-add_spans done (s ∷ l) d h p = Separated-add_spans (add_span s done) l (valid-add_span s done h.0 d) h.1 (Separated-add_span s done h.0 d p)

pub each-add_spans : (P : Span → Type 0) → Joins P → (done l : List Span) → AllByRecursion P done → AllByRecursion P l → AllByRecursion P (add_spans done l)
unfolding add_spans
each-add_spans P f done [] d h = d
each-add_spans P f done (s ∷ l) d h = each-add_spans P f (add_span s done) l (each-add_span P f s done h.0 d) h.1

or_nothing : (b : Bool) → b ≡ (b || false)
or_nothing true = refl
or_nothing false = refl

pub any-add_spans : (q : Span → Bool) → Hulls q → (done l : List Span) → AllByRecursion IsSpan done → AllByRecursion IsSpan l → list_any q (add_spans done l) ≡ (list_any q done || list_any q l)
unfolding add_spans
any-add_spans q f done [] d h = or_nothing (list_any q done)
any-add_spans q f done (s ∷ l) d h =
    any-add_spans q f (add_span s done) l (valid-add_span s done h.0 d) h.1
    ∙ (ap (λ b. b || list_any q l) (any-add_span q f s done h.0 d)
    ∙ (or_assoc (q s) (list_any q done) (list_any q l) ∙ or_swap (q s) (list_any q done) (list_any q l)))

-- what is joined and held in all
pub joined-add_spans : (l : List Span) (x : ℕ) → AllByRecursion IsSpan l → joined (add_spans [] l) x ≡ joined l x
joined-add_spans l x h = any-add_spans (joins x) (hull-joins x) [] l tt h

pub held-add_spans : (l : List Span) (x : ℕ) → AllByRecursion IsSpan l → held (add_spans [] l) x ≡ held l x
held-add_spans l x h = any-add_spans (holds x) (hull-holds x) [] l tt h

-- ---- how many there are

length-add_span : (s : Span) (l : List Span) → length (add_span s l) ≤ length l + 1
length-add_span s [] = rw (add_span-nil s) (omega arith)
length-add_span s (t ∷ l) =
    elim (cases_lt t.hi s.lo) [
      | inl a ↦ rw (add_span-later s t l a) (let more = length-add_span s l in omega arith)
      | inr a ↦ elim (cases_lt s.hi t.lo) [
        | inl b ↦ rw (add_span-here s t l a b) (omega arith)
        | inr b ↦ rw (add_span-both s t l a b) (let more = length-add_span (hull s t) l in omega arith)
      ]
    ]

pub length-add_spans : (done l : List Span) → length (add_spans done l) ≤ length done + length l
unfolding add_spans
length-add_spans done [] = omega arith
length-add_spans done (s ∷ l) = let one = length-add_span s done in let more = length-add_spans (add_span s done) l in omega arith
