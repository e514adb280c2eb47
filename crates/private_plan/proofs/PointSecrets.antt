-- The points of slots: exactly one tells each number that a slot holds.
use Rattle.std.proofs.Common.{◌≡◌, ℕ, zero, suc, ◌+◌, ◌-◌, ◌/◌, ◌^◌, ◌<◌, ◌≤◌, Bool, true, false, cond, nat_eq, List, [], ◌∷◌, length, map, Option, Some, None, refl, sym, ap, ap₂, ◌∙◌, arith, IfSome}
use Rattle.std.specs.Prelude.{slice_get, sum_by}
use Rattle.std.specs.List.{AllByRecursion, filter, flat_map, range_with_len}
use Rattle.std.proofs.lemmas.List.{length-map}
use Rattle.std.proofs.lemmas.List.Elements.{All-head, All-tail}
use Rattle.std.proofs.lemmas.List.Sums.{sum_by-append, sum_by-cons}
use Rattle.std.proofs.lemmas.Nat.{pow_pos}
use Rattle.spl_words.specs.Secrets.{Secret, secret_value}
use Rattle.interval_keys.specs.Intervals.{Span, slot_value}
use Rattle.interval_keys.specs.Slots.{EachSpan}
use Rattle.aligned_ranges.specs.Covers.{cover, cover_level, holds, in_cover, range}
use Rattle.aligned_ranges.specs.declared.ranges.Range.{Range}
use Rattle.aligned_ranges.proofs.CoverLaws.{few_of_level, value_of_cover}
use Rattle.private_plan.specs.declared.plans.PlanKind.{PlanKind}
use Rattle.private_plan.specs.declared.plans.PlanKind.TheVariants as kind
use Rattle.private_plan.specs.Slots.{IsPointOf, IsSlot, cover_secrets, level_secrets, point_secret, range_secret, slot_level, unused_point, point_at}
use Rattle.private_plan.specs.Plans.{brings_cells}
use Rattle.private_plan.specs.Rounds.{first_secrets}
use Rattle.private_plan.proofs.CoverSecrets.{at_place, slot_low}
use Rattle.private_plan.proofs.FirstTrees.{each-append}
use Rattle.private_plan.proofs.SlotSecrets.{point_adds}

no_sum : {A : Type 0} (f : A → ℕ) → sum_by f [] ≡ 0
no_sum f = refl

one_sum : {A : Type 0} (f : A → ℕ) (a : A) → sum_by f (a ∷ []) ≡ f a
one_sum f a = let e = sum_by-cons f a [] in omega (arith, e, no_sum f)

two_sum : {A : Type 0} (f : A → ℕ) (a b : A) → sum_by f (a ∷ b ∷ []) ≡ f a + f b
two_sum f a b = sum_by-cons f a (b ∷ []) ∙ ap (λ n. f a + n) (one_sum f b)

over_one : (x : ℕ) → x / 1 ≡ x
over_one x = omega arith

zero_is : (b : Bool) → cond {A = ℕ} b 0 0 ≡ 0
zero_is true = refl
zero_is false = refl

module _ (n x : ℕ) where
  -- what a secret says of x without the bits that its tree lacks
  abbrev pub told : Secret → ℕ
  told s = secret_value s (x / 2 ^ (n - s.depth))

  abbrev held : Range → ℕ
  held r = cond (holds x r) 1 0

  unused_told : (d : ℕ) → told (unused_point d) ≡ 0
  unused_told d = zero_is (nat_eq (x / 2 ^ (n - d)) 0)

  range_told : (j c : ℕ) → j ≤ n → told (range_secret (n - j) (Some (range j c))) ≡ held (range j c)
  range_told j c h = let back : n - (n - j) ≡ j = omega (arith, h) in ap (λ l. cond (nat_eq (x / 2 ^ l) c) 1 0) back

  level_told : (j : ℕ) (cs : List ℕ) → j ≤ n → length cs ≤ 2 → sum_by told (level_secrets (n - j) (map (range j) cs)) ≡ sum_by held (map (range j) cs)
  level_told j [] h few = two_sum told (unused_point (n - j)) (unused_point (n - j)) ∙ ap₂ (λ a b. a + b) (unused_told (n - j)) (unused_told (n - j))
  level_told j (c ∷ []) h few =
      two_sum told (point_at (n - j) c) (unused_point (n - j)) ∙ (ap₂ (λ a b. a + b) (range_told j c h) (unused_told (n - j)) ∙ (plus_zero (held (range j c)) ∙ sym (one_sum held (range j c))))
    where
      plus_zero : (a : ℕ) → a + 0 ≡ a
      plus_zero a = omega arith
  level_told j (c ∷ d ∷ []) h few =
      two_sum told (point_at (n - j) c) (point_at (n - j) d) ∙ (ap₂ (λ a b. a + b) (range_told j c h) (range_told j d h) ∙ sym (two_sum held (range j c) (range j d)))
  level_told j (c ∷ d ∷ e ∷ cs) h few = absurd (omega (arith, few))

  module _ (w : ℕ) (inside : w ≤ n) where
    levels_told : (s : Span) → s.lo / 2 ^ w ≡ s.hi / 2 ^ w → (a m : ℕ) → a + m ≤ n
        → sum_by told (flat_map (λ j. level_secrets (n - j) (cover_level s.lo s.hi w j)) (range_with_len a m)) ≡ sum_by held (flat_map (cover_level s.lo s.hi w) (range_with_len a m))
    unfolding cover_level
    levels_told s agree a zero h = refl
    levels_told s agree a (suc m) h =
        let found = filter (in_cover s.lo s.hi w a) (range_with_len 0 (s.hi + 1)) in
        let few = few_of_level s.lo s.hi w a agree in
        let all = length-map found (range a) in
        sum_by-append told (level_secrets (n - a) (map (range a) found)) (flat_map (λ j. level_secrets (n - j) (cover_level s.lo s.hi w j)) (range_with_len (a + 1) m))
        ∙ (ap₂ (λ p q. p + q) (level_told a found (omega (arith, h)) (omega (arith, few, all))) (levels_told s agree (a + 1) m (omega (arith, h)))
        ∙ sym (sum_by-append held (map (range a) found) (flat_map (cover_level s.lo s.hi w) (range_with_len (a + 1) m))))

    none_told : (a m : ℕ) → sum_by told (flat_map (λ j. level_secrets (n - j) []) (range_with_len a m)) ≡ 0
    none_told a zero = refl
    none_told a (suc m) =
        sum_by-append told (level_secrets (n - a) []) (flat_map (λ j. level_secrets (n - j) []) (range_with_len (a + 1) m))
        ∙ ap₂ (λ p q. p + q) (two_sum told (unused_point (n - a)) (unused_point (n - a)) ∙ ap₂ (λ p q. p + q) (unused_told (n - a)) (unused_told (n - a))) (none_told (a + 1) m)

    cover_told : (slot : Option Span) → 1 ≤ w → IfSome slot (IsSlot n w) → sum_by told (cover_secrets n w slot) ≡ slot_value slot x
    unfolding cover
    cover_told None some is = none_told 0 w
    cover_told (Some s) some is = levels_told s is.agree 0 w (omega (arith, inside)) ∙ value_of_cover s.lo s.hi w x some

    point_told : (slot : Option Span) → IfSome slot (λ s. s.lo ≡ s.hi) → sum_by told (point_secret n slot ∷ []) ≡ slot_value slot x
    point_told slot single = one_sum told (point_secret n slot) ∙ (at_zero slot ∙ point_adds n x slot single)
      where
        whole : x / 2 ^ (n - n) ≡ x
        whole = let none : n - n ≡ 0 = omega arith in ap (λ l. x / 2 ^ l) none ∙ over_one x

        at_zero : (slot : Option Span) → told (point_secret n slot) ≡ secret_value (point_secret n slot) x
        at_zero None = ap (secret_value (point_secret n None)) whole
        at_zero (Some s) = ap (secret_value (point_secret n (Some s))) whole

-- ---- the points of slots

module _ (x : ℕ) (f : Secret → ℕ) (g : Option Span → List Secret) (P : Span → Type 0) (each : (s : Option Span) → IfSome s P → sum_by f (g s) ≡ slot_value s x) where
  slots_told : (l : List (Option Span)) → EachSpan P l → sum_by f (flat_map g l) ≡ sum_by (λ s. slot_value s x) l
  slots_told [] h = refl
  slots_told (s ∷ l) h =
      sum_by-append f (g s) (flat_map g l)
      ∙ (ap₂ (λ a b. a + b) (each s (All-head (λ b. IfSome b P) s l h)) (slots_told l (All-tail (λ b. IfSome b P) s l h)) ∙ sym (sum_by-cons (λ s. slot_value s x) s l))

-- ---- points

module _ (n : ℕ) where
  range_is_point : (d : ℕ) → 1 ≤ d → d ≤ n → (r : Option Range) → IfSome r (λ r. r.index < 2 ^ d) → IsPointOf n (range_secret d r)
  range_is_point d some inside None h = record { is_point = refl; some = some; inside = inside; number = let p = pow_pos d in omega (arith, p); once = omega arith }
  range_is_point d some inside (Some r) h = record { is_point = refl; some = some; inside = inside; number = h; once = omega arith }

  slot_is_point : 1 ≤ n → (slot : Option Span) → IfSome slot (λ s. s.lo < 2 ^ n) → IsPointOf n (point_secret n slot)
  slot_is_point some None h = record { is_point = refl; some = some; inside = omega arith; number = let p = pow_pos n in omega (arith, p); once = omega arith }
  slot_is_point some (Some s) h = record { is_point = refl; some = some; inside = omega arith; number = h; once = omega arith }

  module _ (w : ℕ) (inside : w ≤ n) where
    levels_are_points : (slot : Option Span) → IfSome slot (IsSlot n w) → (a m : ℕ) → a + m ≤ w → AllByRecursion (IsPointOf n) (flat_map (λ j. level_secrets (n - j) (slot_level w slot j)) (range_with_len a m))
    levels_are_points slot is a zero h = tt
    levels_are_points slot is a (suc m) h =
        let low = slot_low n w slot a inside (omega (arith, h)) is in
        let at = λ (k : ℕ). range_is_point (n - a) (omega (arith, h, inside)) (omega arith) (slice_get (slot_level w slot a) k) (at_place (λ r. r.index < 2 ^ (n - a)) (slot_level w slot a) k low) in
        (at 0, (at 1, levels_are_points slot is (a + 1) m (omega (arith, h))))

    low_end : (slot : Option Span) → IfSome slot (IsSlot n w) → IfSome slot (λ s. s.lo < 2 ^ n)
    low_end None is = tt
    low_end (Some s) is = let a = is.order in let b = is.below in omega (arith, a, b)

    slot_points : (k : PlanKind) (range : Bool) → 1 ≤ n → brings_cells k ≡ true → (slot : Option Span) → IfSome slot (IsSlot n w) → AllByRecursion (IsPointOf n) (first_secrets k range n w slot)
    slot_points kind.Sum range some brings slot is = absurd cc
    slot_points kind.Point range some brings slot is = (slot_is_point some slot (low_end slot is), tt)
    slot_points kind.Aligned range some brings slot is = levels_are_points slot is 0 w (omega arith)
    slot_points kind.Position range some brings slot is = absurd cc

    pub slots_points : (k : PlanKind) (range : Bool) → 1 ≤ n → brings_cells k ≡ true → (l : List (Option Span)) → EachSpan (IsSlot n w) l → AllByRecursion (IsPointOf n) (flat_map (first_secrets k range n w) l)
    slots_points k range some brings [] h = tt
    slots_points k range some brings (s ∷ l) h =
        each-append (IsPointOf n) (first_secrets k range n w s) (flat_map (first_secrets k range n w) l)
        (slot_points k range some brings s (All-head (λ b. IfSome b (IsSlot n w)) s l h))
        (slots_points k range some brings l (All-tail (λ b. IfSome b (IsSlot n w)) s l h))

    -- what they say of a number adds to 1 where a slot holds it
    pub slots_tell : (x : ℕ) (k : PlanKind) (range : Bool) → (k ≡ kind.Aligned → 1 ≤ w) → (k ≡ kind.Point → range ≡ false) → brings_cells k ≡ true
        → (l : List (Option Span)) → EachSpan (IsSlot n w) l → (range ≡ false → EachSpan (λ s. s.lo ≡ s.hi) l)
        → sum_by (told n x) (flat_map (first_secrets k range n w) l) ≡ sum_by (λ s. slot_value s x) l
    slots_tell x kind.Sum range wide single brings l h ends = absurd cc
    slots_tell x kind.Point range wide single brings l h ends = slots_told x (told n x) (λ s. point_secret n s ∷ []) (λ s. s.lo ≡ s.hi) (point_told n x w inside) l (ends (single refl))
    slots_tell x kind.Aligned range wide single brings l h ends = slots_told x (told n x) (cover_secrets n w) (IsSlot n w) (λ s is. cover_told n x w inside s (wide refl) is) l h
    slots_tell x kind.Position range wide single brings l h ends = absurd cc
