-- What slots are for: they are disjoint, and hold together what the intervals hold.
use Rattle.std.proofs.Common.{◌≡◌, ℕ, zero, suc, ◌+◌, ◌-◌, ◌<◌, ◌≤◌, ◌||◌, Bool, true, false, cond, List, [], ◌∷◌, ◌++◌, length, map, replicate, sum_by, AllPairs, Option, Some, None, IfSome, refl, ap, ap₂, sym, subst, length-append, ◌∙◌, arith}
use Rattle.std.specs.List.{AllByRecursion}
use Rattle.std.proofs.lemmas.Bool.Decides.{nat_tests}
use Rattle.std.proofs.lemmas.List.{length-map, length-replicate}
use Rattle.std.proofs.lemmas.List.Elements.{All-cons, All-from_recursion, All-replicate}
use Rattle.std.proofs.lemmas.List.Folds.{sum_by-replicate}
use Rattle.std.proofs.lemmas.List.Sums.{sum_by-cons}
use Rattle.std.proofs.Math.Nat.{mul-zero}
use Rattle.std.proofs.lemmas.List.Kept.{AllPairs-cons}
use Rattle.interval_keys.specs.Intervals.{Span, slot_value}
use Rattle.interval_keys.specs.Slots.{EachSpan, IsSpan, allowed, held, holds, slots, starts, ends, spans_between}
use Rattle.interval_keys.specs.Merging.{add_spans}
use Rattle.interval_keys.proofs.Merging.{Joins, Separated, Separated-add_spans, each-add_spans, held-add_spans, length-add_spans, valid-add_spans}
use Rattle.interval_keys.proofs.SlotEnds.{or_false, spans_between-ends}
use Rattle.interval_keys.proofs.SlotSteps.{each_allowed}

-- ---- slots as padded disjoint intervals

between : List (Option Span) → List Span
between branches = spans_between (starts (allowed branches)) (ends (allowed branches))

disjoint : List (Option Span) → List Span
disjoint branches = add_spans [] (allowed branches)

between-disjoint : (branches : List (Option Span)) → EachSpan IsSpan branches → between branches ≡ disjoint branches
unfolding between disjoint
between-disjoint branches v = spans_between-ends (allowed branches) (each_allowed IsSpan branches v)

valid_between : (branches : List (Option Span)) → EachSpan IsSpan branches → AllByRecursion IsSpan (between branches)
unfolding disjoint
valid_between branches v = rw (between-disjoint branches v) (valid-add_spans [] (allowed branches) tt (each_allowed IsSpan branches v))

separated_between : (branches : List (Option Span)) → EachSpan IsSpan branches → Separated (between branches)
unfolding disjoint
separated_between branches v = rw (between-disjoint branches v) (Separated-add_spans [] (allowed branches) tt (each_allowed IsSpan branches v) tt)

held_between : (branches : List (Option Span)) (x : ℕ) → EachSpan IsSpan branches → held (between branches) x ≡ held (allowed branches) x
unfolding disjoint
held_between branches x v = ap (λ l. held l x) (between-disjoint branches v) ∙ held-add_spans (allowed branches) x (each_allowed IsSpan branches v)

each_between : (P : Span → Type 0) → Joins P → (branches : List (Option Span)) → EachSpan IsSpan branches → EachSpan P branches → AllByRecursion P (between branches)
unfolding disjoint
each_between P j branches v h = rw (between-disjoint branches v) (each-add_spans P j [] (allowed branches) tt (each_allowed P branches h))

length-allowed : (branches : List (Option Span)) → length (allowed branches) ≤ length branches
unfolding allowed
length-allowed [] = omega arith
length-allowed (None ∷ l) = let more = length-allowed l in omega arith
length-allowed (Some s ∷ l) = let more = length-allowed l in omega arith

length-between : (branches : List (Option Span)) → EachSpan IsSpan branches → length (between branches) ≤ length branches
unfolding disjoint
length-between branches v =
    let same : length (between branches) ≡ length (add_spans [] (allowed branches)) = ap (λ l. length l) (between-disjoint branches v) in
    let added : length (add_spans [] (allowed branches)) ≤ 0 + length (allowed branches) = length-add_spans [] (allowed branches) in
    let fewer = length-allowed branches in
    omega arith

-- ---- what padding keeps

allowed-nothing : (k : ℕ) → allowed (replicate k None) ≡ []
unfolding allowed
allowed-nothing zero = refl
allowed-nothing (suc k) = allowed-nothing k

allowed-padded : (l : List Span) (k : ℕ) → allowed (map (λ s. Some s) l ++ replicate k None) ≡ l
unfolding allowed
allowed-padded [] k = allowed-nothing k
allowed-padded (s ∷ l) k = ap (λ r. s ∷ r) (allowed-padded l k)

each_padded : (P : Span → Type 0) (l : List Span) (k : ℕ) → AllByRecursion P l → EachSpan P (map (λ s. Some s) l ++ replicate k None)
each_padded P [] k h = All-replicate (λ b. IfSome b P) k None tt
each_padded P (s ∷ l) k h = All-cons (λ b. IfSome b P) (Some s) (map (λ s. Some s) l ++ replicate k None) h.0 (each_padded P l k h.1)

value-nothing : (x k : ℕ) → sum_by (λ b. slot_value b x) (replicate k None) ≡ 0
value-nothing x k = sum_by-replicate (λ b. slot_value b x) k None ∙ mul-zero k

value-padded : (x : ℕ) (l : List Span) (k : ℕ) → sum_by (λ b. slot_value b x) (map (λ s. Some s) l ++ replicate k None) ≡ sum_by (λ s. slot_value (Some s) x) l
value-padded x [] k = value-nothing x k
value-padded x (s ∷ l) k =
    sum_by-cons (λ b. slot_value b x) (Some s) (map (λ s. Some s) l ++ replicate k None)
    ∙ (ap (λ n. slot_value (Some s) x + n) (value-padded x l k) ∙ sym (sum_by-cons (λ s. slot_value (Some s) x) s l))

-- ---- disjoint intervals

not_later : (x : ℕ) (s u : Span) → holds x s ≡ true → s.hi < u.lo → holds x u ≡ false
not_later x s u e h = grind (arith, nat_tests)

none_later : (x : ℕ) (s : Span) (l : List Span) → holds x s ≡ true → AllByRecursion (λ u. s.hi < u.lo) l → held l x ≡ false
none_later x s [] e h = refl
none_later x s (u ∷ l) e h = or_false (holds x u) (held l x) (not_later x s u e h.0) (none_later x s l e h.1)

counted : (a b : Bool) → (a ≡ true → b ≡ false) → cond a 1 0 + cond b 1 0 ≡ cond (a || b) 1 0
counted true b f = let none = f refl in rw none refl
counted false true f = refl
counted false false f = refl

value-separated : (x : ℕ) (l : List Span) → Separated l → sum_by (λ s. slot_value (Some s) x) l ≡ cond (held l x) 1 0
value-separated x [] d = refl
value-separated x (s ∷ l) d =
    sum_by-cons (λ s. slot_value (Some s) x) s l
    ∙ (ap (λ n. cond (holds x s) 1 0 + n) (value-separated x l d.1) ∙ counted (holds x s) (held l x) (λ e. none_later x s l e d.0))

pairs_apart : (l : List Span) → Separated l → AllPairs (λ s t. s.hi < t.lo) l
pairs_apart [] d = λ i j e below within. absurd (omega arith)
pairs_apart (s ∷ l) d = AllPairs-cons (λ s t. s.hi < t.lo) s l (All-from_recursion (λ u. s.hi < u.lo) l d.0) (pairs_apart l d.1)

-- ---- the laws

pub length-slots : (branches : List (Option Span)) → EachSpan IsSpan branches → length (slots branches) ≡ length branches
unfolding between
length-slots branches v =
    let l = between branches in
    let k = length branches - length l in
    let fits = length-between branches v in
    let all : length (map (λ s. Some s) l ++ replicate k None) ≡ length l + k =
    length-append (map (λ s. Some s) l) (replicate k None) ∙ ap₂ (λ m n. m + n) (length-map l (λ s. Some s)) (length-replicate k None) in
    omega arith

pub valid_slots : (branches : List (Option Span)) → EachSpan IsSpan branches → EachSpan IsSpan (slots branches)
unfolding between
valid_slots branches v = each_padded IsSpan (between branches) _ (valid_between branches v)

pub slots_apart : (branches : List (Option Span)) → EachSpan IsSpan branches → AllPairs (λ s t. s.hi < t.lo) (allowed (slots branches))
unfolding between
slots_apart branches v = subst (AllPairs (λ s t. s.hi < t.lo)) (sym (allowed-padded (between branches) _)) (pairs_apart (between branches) (separated_between branches v))

pub held_slots : (branches : List (Option Span)) (x : ℕ) → EachSpan IsSpan branches → held (allowed (slots branches)) x ≡ held (allowed branches) x
unfolding between
held_slots branches x v = ap (λ l. held l x) (allowed-padded (between branches) _) ∙ held_between branches x v

pub value_slots : (branches : List (Option Span)) (x : ℕ) → EachSpan IsSpan branches → sum_by (λ s. slot_value s x) (slots branches) ≡ cond (held (allowed branches) x) 1 0
unfolding between
value_slots branches x v =
    value-padded x (between branches) _
    ∙ (value-separated x (between branches) (separated_between branches v) ∙ ap (λ b. cond b 1 0) (held_between branches x v))

-- what each interval has, and the hull of two that meet where both have it, each slot has too
pub each_slot : (P : Span → Type 0) → Joins P → (branches : List (Option Span)) → EachSpan IsSpan branches → EachSpan P branches → EachSpan P (slots branches)
unfolding between
each_slot P j branches v h = each_padded P (between branches) _ (each_between P j branches v h)

hull_below : (n : ℕ) → Joins (λ s. s.hi < n)
hull_below n s t h k p q = omega arith

pub slots_below : (branches : List (Option Span)) (n : ℕ) → EachSpan IsSpan branches → EachSpan (λ s. s.hi < n) branches → EachSpan (λ s. s.hi < n) (slots branches)
slots_below branches n v h = each_slot (λ s. s.hi < n) (hull_below n) branches v h

hull_single : Joins (λ s. s.lo ≡ s.hi)
hull_single s t h k p q = omega arith

pub single_slots : (branches : List (Option Span)) → EachSpan IsSpan branches → EachSpan (λ s. s.lo ≡ s.hi) branches → EachSpan (λ s. s.lo ≡ s.hi) (slots branches)
single_slots branches v h = each_slot (λ s. s.lo ≡ s.hi) hull_single branches v h
