-- Indices of a level as what stands above a base.
use Rattle.std.proofs.Common.{◌≡◌, ℕ, zero, suc, ◌+◌, ◌-◌, ◌*◌, ◌/◌, ◌%◌, ◌^◌, ◌<◌, ◌≤◌, Bool, true, false, cond, ◌==◌, min, [], ◌∷◌, ◌++◌, map, inl, inr, refl, sym, ap, ap₂, ◌∙◌, arith}
use Rattle.std.specs.List.{range_with_len}
use Rattle.std.proofs.Math.Nat.{div-mul-le_self, le_of_mul-le-mul_right, lt-div-mul-add, mul-add}
use Rattle.std.proofs.lemmas.Bool.{cases_lt}
use Rattle.std.proofs.lemmas.Nat.{pow_pos}
use Rattle.aligned_ranges.specs.Climbing.{outer}
use Rattle.aligned_ranges.specs.Covers.{cover_level, range}
use Rattle.aligned_ranges.proofs.Ends.{Ends, ends_lowest, ends_up, twice}
use Rattle.aligned_ranges.proofs.Levels.{level_below, level_highest, outer-none, outer-some}

-- ---- lists above a base

two_cases : {A : Type 0} (f g : ℕ → A) (a b c d : ℕ) (x y : Bool) → f a ≡ g c → f b ≡ g d
    → map f (cond x (a ∷ []) [] ++ cond y (b ∷ []) []) ≡ map g (cond x (c ∷ []) [] ++ cond y (d ∷ []) [])
two_cases f g a b c d true true p q = ap₂ (λ u v. u ∷ v ∷ []) p q
two_cases f g a b c d true false p q = ap (λ u. u ∷ []) p
two_cases f g a b c d false true p q = ap (λ u. u ∷ []) q
two_cases f g a b c d false false p q = refl

outer-above : {A : Type 0} (f : ℕ → A) (base a b : ℕ) → base % 2 ≡ 0 → map f (outer (base + a) (base + b)) ≡ map (λ k. f (base + k)) (outer a b)
outer-above f base a b even =
    elim (cases_lt a b) [
      | inl h ↦
          let odd : (base + a) % 2 ≡ a % 2 = omega arith in
          let odd_end : (base + b) % 2 ≡ b % 2 = omega arith in
          let last : base + b - 1 ≡ base + (b - 1) = omega arith in
          ap (map f) (outer-some (base + a) (base + b) (omega arith))
          ∙ (ap₂ (λ m n. map f (cond (m == 1) ((base + a) ∷ []) [] ++ cond (n == 1) ((base + b - 1) ∷ []) [])) odd odd_end
          ∙ (two_cases f (λ k. f (base + k)) (base + a) (base + b - 1) a (b - 1) (a % 2 == 1) (b % 2 == 1) refl (ap f last)
          ∙ sym (ap (map (λ k. f (base + k))) (outer-some a b h))))
      | inr h ↦ ap (map f) (outer-none (base + a) (base + b) (omega arith)) ∙ sym (ap (map (λ k. f (base + k))) (outer-none a b h))
    ]

run-above : {A : Type 0} (f : ℕ → A) (base a n : ℕ) → map f (range_with_len (base + a) n) ≡ map (λ k. f (base + k)) (range_with_len a n)
run-above f base a zero = refl
run-above f base a (suc n) =
    let next : base + a + 1 ≡ base + (a + 1) = omega arith in
    ap (λ l. f (base + a) ∷ l) (ap (λ m. map f (range_with_len m n)) next ∙ run-above f base (a + 1) n)

pub below-above : (lo hi w j base a b : ℕ) → Ends lo hi j (base + a) (base + b) → j + 1 < w → base % 2 ≡ 0
    → map (λ k. range j (base + k)) (outer a b) ≡ cover_level lo hi w j
below-above lo hi w j base a b r h even = sym (level_below lo hi w j (base + a) (base + b) r (λ e. omega arith) ∙ outer-above (range j) base a b even)

pub highest-above : (lo hi w j base a b : ℕ) → Ends lo hi j (base + a) (base + b) → j + 1 ≡ w
    → map (λ k. range j (base + k)) (range_with_len a (b - a)) ≡ cover_level lo hi w j
highest-above lo hi w j base a b r e =
    let n : base + b - (base + a) ≡ b - a = omega arith in
    sym
    (level_highest lo hi w j (base + a) (base + b) r e
    ∙ (ap (λ m. map (range j) (range_with_len (base + a) m)) n ∙ run-above (range j) base a (b - a)))

-- ---- the base and the ends, level by level

base_double : (base d w j : ℕ) → j < w → base ≡ d * 2 ^ (w - j) → base ≡ d * 2 ^ (w - (j + 1)) + d * 2 ^ (w - (j + 1))
base_double base d w j h e =
    let n : w - j ≡ w - (j + 1) + 1 = omega arith in
    e ∙ (ap (λ m. d * m) (ap (λ m. 2 ^ m) n ∙ twice (w - (j + 1))) ∙ mul-add d (2 ^ (w - (j + 1))) (2 ^ (w - (j + 1))))

pub base_even : (base d w j : ℕ) → j < w → base ≡ d * 2 ^ (w - j) → base % 2 ≡ 0
base_even base d w j h e = let double = base_double base d w j h e in omega arith

pub base_up : (base d w j : ℕ) → j < w → base ≡ d * 2 ^ (w - j) → base / 2 ≡ d * 2 ^ (w - (j + 1))
base_up base d w j h e = let double = base_double base d w j h e in omega arith

pub base_lowest : (lo w : ℕ) → lo < 2 ^ 128 → (lo / 2 ^ w * 2 ^ w) % 2 ^ 128 ≡ lo / 2 ^ w * 2 ^ w
base_lowest lo w h = let low = div-mul-le_self lo (2 ^ w) in omega arith

pub lowest-above : (lo hi base : ℕ) → base ≤ lo → lo ≤ hi → Ends lo hi 0 (base + (lo - base)) (base + (hi - base + 1))
lowest-above lo hi base h k =
    let first : base + (lo - base) ≡ lo = omega arith in
    let end : base + (hi - base + 1) ≡ hi + 1 = omega arith in
    rw (first, end) (ends_lowest lo hi)

pub up-above : (lo hi j base a b up : ℕ) → Ends lo hi j (base + a) (base + b) → base % 2 ≡ 0 → up ≡ a / 2 + min 1 (a % 2) → Ends lo hi (j + 1) (base / 2 + up) (base / 2 + b / 2)
up-above lo hi j base a b up r even e =
    let first : (base + a + 1) / 2 ≡ base / 2 + up = omega arith in
    let end : (base + b) / 2 ≡ base / 2 + b / 2 = omega arith in
    rw (← first, ← end) (ends_up lo hi j (base + a) (base + b) r)

-- ---- at most two of the highest level

pub two_highest : (lo hi w j a b : ℕ) → Ends lo hi j a b → j + 1 ≡ w → lo / 2 ^ w ≡ hi / 2 ^ w → b ≤ a + 2
two_highest lo hi w j a b r e same =
    let some = pow_pos j in
    let whole : 2 ^ w ≡ 2 ^ j + 2 ^ j = ap (λ n. 2 ^ n) (sym e) ∙ twice j in
    let above = div-mul-le_self lo (2 ^ w) in
    let below = lt-div-mul-add {a = hi} (pow_pos w) in
    let low : lo / 2 ^ w * 2 ^ w ≡ hi / 2 ^ w * 2 ^ w = ap (λ n. n * 2 ^ w) same in
    let first = r.first_reached in
    let end = r.end_within in
    let all : b * 2 ^ j ≤ (a + 2) * 2 ^ j = omega arith in
    le_of_mul-le-mul_right all some
