-- What covers are for: each number of an interval lies in one range, and each level has at most two.
use Rattle.std.proofs.Common.{◌≡◌, ℕ, zero, suc, ◌+◌, ◌-◌, ◌*◌, ◌/◌, ◌^◌, ◌<◌, ◌≤◌, ◌⊎◌, Bool, true, false, not, cond, ◌&&◌, ◌||◌, ◌==◌, leb, List, [], ◌∷◌, ◌++◌, length, map, sum_by, inl, inr, refl, sym, ap, ap₂, ◌∙◌, add-one, arith}
use Rattle.std.specs.List.{filter, flat_map, range_with_len}
use Rattle.std.proofs.Math.Nat.{mul-le-mul_right}
use Rattle.std.proofs.lemmas.Bool.{and_from, and_parts, cases_eq, cases_lt, cond-false, eq-eqb, false_from_ne_true, le-leb, leb-true, lt-leb, ne_eqb}
use Rattle.std.proofs.lemmas.List.{length-map}
use Rattle.std.proofs.lemmas.List.FromFn.{length-range_with_len}
use Rattle.std.proofs.lemmas.List.Sums.{sum_by-append, sum_by-cons}
use Rattle.std.proofs.lemmas.Nat.{shr-shr}
use Rattle.aligned_ranges.specs.Climbing.{outer}
use Rattle.aligned_ranges.specs.Covers.{cover, cover_level, holds, in_cover, lies_in, range}
use Rattle.aligned_ranges.proofs.Ends.{Ends, ends_lowest, ends_up, twice}
use Rattle.aligned_ranges.proofs.Levels.{in_cover-within, level_below, level_highest, outer-none, outer-some}
use Rattle.aligned_ranges.proofs.Offsets.{two_highest}

-- ---- at most two of a level

level_ends : (lo hi j : ℕ) → (a : ℕ) × (b : ℕ) × Ends lo hi j a b
level_ends lo hi zero = (lo, hi + 1, ends_lowest lo hi)
level_ends lo hi (suc j) =
    let r = level_ends lo hi j in
    ((r.0 + 1) / 2, r.1 / 2, rw (← add-one j) (ends_up lo hi j r.0 r.1 r.2))

length-two : (a b : ℕ) (x y : Bool) → length (cond x (a ∷ []) [] ++ cond y (b ∷ []) []) ≤ 2
length-two a b true true = omega arith
length-two a b true false = omega arith
length-two a b false true = omega arith
length-two a b false false = omega arith

length-outer : (a b : ℕ) → length (outer a b) ≤ 2
length-outer a b =
    elim (cases_lt a b) [
      | inl h ↦ rw (outer-some a b h) (length-two a (b - 1) _ _)
      | inr h ↦ rw (outer-none a b h) (omega arith)
    ]

few_between : (lo hi w j a b : ℕ) → Ends lo hi j a b → lo / 2 ^ w ≡ hi / 2 ^ w → length (cover_level lo hi w j) ≤ 2
few_between lo hi w j a b r same =
    elim (cases_eq (j + 1) w) [
      | inl e ↦
          let two = two_highest lo hi w j a b r e same in
          let all = ap length (level_highest lo hi w j a b r e) ∙ (length-map (range_with_len a (b - a)) (range j) ∙ length-range_with_len a (b - a)) in
          omega arith
      | inr ne ↦
          let two = length-outer a b in
          let all = ap length (level_below lo hi w j a b r ne) ∙ length-map (outer a b) (range j) in
          omega arith
    ]

pub few_of_level : (lo hi w j : ℕ) → lo / 2 ^ w ≡ hi / 2 ^ w → length (cover_level lo hi w j) ≤ 2
few_of_level lo hi w j same = let r = level_ends lo hi j in few_between lo hi w j r.0 r.1 r.2 same

-- ---- how many of some numbers are y

is : ℕ → ℕ → ℕ
is y c = cond (y == c) 1 0

is-other : (y c : ℕ) → (y ≡ c → ⊥) → is y c ≡ 0
unfolding is
is-other y c ne = cond-false (y == c) 1 0 (ne_eqb y c ne)

is-same : (y c : ℕ) → y ≡ c → is y c ≡ 1
unfolding is
is-same y c e = rw (eq-eqb y c e) refl

one_more : (f : ℕ → ℕ) (a : ℕ) (l : List ℕ) (x : Bool) → sum_by f (cond x (a ∷ l) l) ≡ cond x (f a) 0 + sum_by f l
one_more f a l true = sum_by-cons f a l
one_more f a l false = omega arith

either_way : (x : Bool) (n : ℕ) → n ≡ 0 → cond x n 0 ≡ 0
either_way true n e = e
either_way false n e = refl

apart_sum : (p : ℕ → Bool) (y a n : ℕ) → (y < a) ⊎ (a + n ≤ y) → sum_by (is y) (filter p (range_with_len a n)) ≡ 0
apart_sum p y a zero h = refl
apart_sum p y a (suc n) (inl h) =
    let here = either_way (p a) (is y a) (is-other y a (λ e. omega arith)) in
    let rest = apart_sum p y (a + 1) n (inl (omega arith)) in
    one_more (is y) a (filter p (range_with_len (a + 1) n)) (p a) ∙ omega arith
apart_sum p y a (suc n) (inr h) =
    let here = either_way (p a) (is y a) (is-other y a (λ e. omega arith)) in
    let rest = apart_sum p y (a + 1) n (inr (omega arith)) in
    one_more (is y) a (filter p (range_with_len (a + 1) n)) (p a) ∙ omega arith

among_sum : (p : ℕ → Bool) (y a n : ℕ) → a ≤ y → y < a + n → sum_by (is y) (filter p (range_with_len a n)) ≡ cond (p y) 1 0
among_sum p y a zero h k = absurd (omega arith)
among_sum p y a (suc n) h k =
    elim (cases_eq y a) [
      | inl e ↦
          let here : cond (p a) (is y a) 0 ≡ cond (p y) 1 0 = ap₂ (λ c m. cond (p c) m 0) (sym e) (is-same y a e) in
          let rest = apart_sum p y (a + 1) n (inl (omega arith)) in
          one_more (is y) a (filter p (range_with_len (a + 1) n)) (p a) ∙ omega arith
      | inr ne ↦
          let here = either_way (p a) (is y a) (is-other y a ne) in
          let rest = among_sum p y (a + 1) n (omega arith) (omega arith) in
          one_more (is y) a (filter p (range_with_len (a + 1) n)) (p a) ∙ omega arith
    ]

all_sum : (p : ℕ → Bool) (y n : ℕ) → ((c : ℕ) → p c ≡ true → c < n) → sum_by (is y) (filter p (range_with_len 0 n)) ≡ cond (p y) 1 0
all_sum p y n bound =
    elim (cases_lt y n) [
      | inl h ↦ among_sum p y 0 n (omega arith) (omega arith)
      | inr h ↦
          let fails = false_from_ne_true (p y) (λ e. let k = bound y e in omega arith) in
          apart_sum p y 0 n (inr (omega arith)) ∙ sym (cond-false (p y) 1 0 fails)
    ]

-- ---- how many ranges of a level hold x

sum_by-map : {A B : Type 0} (f : B → ℕ) (g : A → B) (l : List A) → sum_by f (map g l) ≡ sum_by (λ a. f (g a)) l
sum_by-map f g [] = refl
sum_by-map f g (a ∷ l) = sum_by-cons f (g a) (map g l) ∙ (ap (λ n. f (g a) + n) (sum_by-map f g l) ∙ sym (sum_by-cons (λ a. f (g a)) a l))

level_sum : (lo hi w j x : ℕ) → sum_by (λ r. cond (holds x r) 1 0) (cover_level lo hi w j) ≡ cond (in_cover lo hi w j (x / 2 ^ j)) 1 0
unfolding cover_level is
level_sum lo hi w j x =
    sum_by-map (λ r. cond (holds x r) 1 0) (range j) (filter (in_cover lo hi w j) (range_with_len 0 (hi + 1)))
    ∙ all_sum (in_cover lo hi w j) (x / 2 ^ j) (hi + 1) (λ c e. in_cover-within lo hi w j c e)

-- ---- from the highest level down

-- whether the range of level j that holds x lies in the interval
around : ℕ → ℕ → ℕ → ℕ → Bool
around lo hi x j = lies_in lo hi j (x / 2 ^ j)

half : (x j : ℕ) → x / 2 ^ j / 2 ≡ x / 2 ^ (j + 1)
half x j = shr-shr x j 1

inside : (lo n y u P Q : ℕ) → Q ≡ P + P → u ≡ y / 2 → lo ≤ u * Q → (u + 1) * Q ≤ n → (lo ≤ y * P) × ((y + 1) * P ≤ n)
inside lo n y u P Q e f h k =
    let low : u + u ≤ y = omega arith in
    let high : y + 1 ≤ u + u + 2 = omega arith in
    let reach_low = mul-le-mul_right P low in
    let reach_high = mul-le-mul_right P high in
    let double : u * Q ≡ u * (P + P) = ap (λ m. u * m) e in
    let double_next : (u + 1) * Q ≡ (u + 1) * (P + P) = ap (λ m. (u + 1) * m) e in
    (omega arith, omega arith)

around-up : (lo hi x j : ℕ) → around lo hi x (j + 1) ≡ true → around lo hi x j ≡ true
unfolding around
around-up lo hi x j e =
    let up = x / 2 ^ (j + 1) in
    let parts = and_parts (leb lo (up * 2 ^ (j + 1))) (leb ((up + 1) * 2 ^ (j + 1)) (hi + 1)) e in
    let both =
    inside lo (hi + 1) (x / 2 ^ j) up (2 ^ j) (2 ^ (j + 1)) (twice j) (sym (half x j)) (leb-true lo (up * 2 ^ (j + 1)) parts.0) (leb-true ((up + 1) * 2 ^ (j + 1)) (hi + 1) parts.1) in
    and_from _ _ (le-leb lo (x / 2 ^ j * 2 ^ j) both.0) (le-leb ((x / 2 ^ j + 1) * 2 ^ j) (hi + 1) both.1)

and_or_true : (x y : Bool) → (x && (true || y)) ≡ x
and_or_true true y = refl
and_or_true false y = refl

test-highest : (lo hi w x j : ℕ) → j + 1 ≡ w → in_cover lo hi w j (x / 2 ^ j) ≡ around lo hi x j
unfolding around
test-highest lo hi w x j e =
    let up = lies_in lo hi (j + 1) (x / 2 ^ j / 2) in
    ap (λ b. lies_in lo hi j (x / 2 ^ j) && (b || not up)) (eq-eqb (j + 1) w e) ∙ and_or_true (lies_in lo hi j (x / 2 ^ j)) (not up)

test-below : (lo hi w x j : ℕ) → (j + 1 ≡ w → ⊥) → in_cover lo hi w j (x / 2 ^ j) ≡ (around lo hi x j && not (around lo hi x (j + 1)))
unfolding around
test-below lo hi w x j ne =
    ap₂ (λ b u. lies_in lo hi j (x / 2 ^ j) && (b || not (lies_in lo hi (j + 1) u))) (ne_eqb (j + 1) w ne) (half x j)

taken_off : (x y : Bool) → (y ≡ true → x ≡ true) → cond (x && not y) 1 0 + cond y 1 0 ≡ cond x 1 0
taken_off true true f = refl
taken_off true false f = refl
taken_off false true f = let e = f refl in cc
taken_off false false f = refl

sum_from : (lo hi w x n j : ℕ) → j + 1 + n ≡ w → sum_by (λ r. cond (holds x r) 1 0) (flat_map (cover_level lo hi w) (range_with_len j (suc n))) ≡ cond (around lo hi x j) 1 0
sum_from lo hi w x zero j e =
    let here = level_sum lo hi w j x ∙ ap (λ b. cond b 1 0) (test-highest lo hi w x j (omega arith)) in
    sum_by-append (λ r. cond (holds x r) 1 0) (cover_level lo hi w j) [] ∙ omega arith
sum_from lo hi w x (suc n) j e =
    let here = level_sum lo hi w j x ∙ ap (λ b. cond b 1 0) (test-below lo hi w x j (λ f. omega arith)) in
    let rest = sum_from lo hi w x n (j + 1) (omega arith) in
    sum_by-append (λ r. cond (holds x r) 1 0) (cover_level lo hi w j) (flat_map (cover_level lo hi w) (range_with_len (j + 1) (suc n)))
    ∙ (ap₂ (λ a b. a + b) here rest ∙ taken_off (around lo hi x j) (around lo hi x (j + 1)) (around-up lo hi x j))

-- ---- the numbers of the interval

leb-next : (x y : ℕ) → leb (x + 1) (y + 1) ≡ leb x y
leb-next x y =
    elim (cases_lt y x) [
      | inl h ↦ lt-leb (x + 1) (y + 1) (omega arith) ∙ sym (lt-leb x y h)
      | inr h ↦ le-leb (x + 1) (y + 1) (omega arith) ∙ sym (le-leb x y h)
    ]

around-lowest : (lo hi x : ℕ) → around lo hi x 0 ≡ (leb lo x && leb x hi)
unfolding around
around-lowest lo hi x =
    let first : x / 1 * 1 ≡ x = omega arith in
    let end : (x / 1 + 1) * 1 ≡ x + 1 = omega arith in
    ap₂ (λ m n. leb lo m && leb n (hi + 1)) first end ∙ ap (λ b. leb lo x && b) (leb-next x hi)

pub value_of_cover : (lo hi w x : ℕ) → 1 ≤ w → sum_by (λ r. cond (holds x r) 1 0) (cover lo hi w) ≡ cond (leb lo x && leb x hi) 1 0
unfolding cover
value_of_cover lo hi w x h =
    let some : w ≡ suc (w - 1) = omega arith in
    ap (λ n. sum_by (λ r. cond (holds x r) 1 0) (flat_map (cover_level lo hi w) (range_with_len 0 n))) some
    ∙ (sum_from lo hi w x (w - 1) 0 (omega arith) ∙ ap (λ b. cond b 1 0) (around-lowest lo hi x))
