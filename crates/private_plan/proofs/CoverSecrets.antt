-- The ranges of each level of a cover, and the bits of their indices.
use Rattle.std.proofs.Common.{◌≡◌, ℕ, zero, suc, ◌+◌, ◌-◌, ◌*◌, ◌/◌, ◌^◌, ◌<◌, ◌≤◌, Bool, true, false, cond, ◌||◌, ◌==◌, not, leb, List, [], ◌∷◌, ◌++◌, map, Option, Some, None, inl, inr, refl, ap, ap₂, ◌∙◌, arith, IfSome}
use Rattle.std.specs.Prelude.{slice_get}
use Rattle.std.specs.List.{AllByRecursion, filter, flat_map, range_with_len}
use Rattle.std.proofs.Math.Nat.{mul-le-mul_right}
use Rattle.std.proofs.lemmas.Bool.{and_parts, cases_lt, eq-eqb, leb-true, ne_eqb}
use Rattle.std.proofs.lemmas.List.{append-nil}
use Rattle.std.proofs.lemmas.List.Elements.{filter-append}
use Rattle.std.proofs.lemmas.Nat.{pow_pos, pow-add}
use Rattle.interval_keys.specs.Intervals.{Span}
use Rattle.aligned_ranges.specs.Covers.{cover, cover_level, in_cover, lies_in, range}
use Rattle.aligned_ranges.specs.declared.ranges.Range.{Range}
use Rattle.private_plan.specs.Slots.{IsSlot, slot_level}

-- ---- one level among those of a cover

abbrev pub of_level : ℕ → List Range → List Range
of_level j ranges = filter (λ r. r.level == j) ranges

same_level : (i j : ℕ) → (i == j) ≡ true → (cs : List ℕ) → of_level j (map (range i) cs) ≡ map (range i) cs
same_level i j e [] = refl
same_level i j e (c ∷ cs) = rw e (ap (λ l. range i c ∷ l) (same_level i j e cs))

other_level : (i j : ℕ) → (i == j) ≡ false → (cs : List ℕ) → of_level j (map (range i) cs) ≡ []
other_level i j e [] = refl
other_level i j e (c ∷ cs) = rw e (other_level i j e cs)

module _ (lo hi w : ℕ) where
  abbrev found : ℕ → List ℕ
  found j = filter (in_cover lo hi w j) (range_with_len 0 (hi + 1))

  -- the levels from a on have no range of a lower one
  none_above : (j a m : ℕ) → j < a → of_level j (flat_map (cover_level lo hi w) (range_with_len a m)) ≡ []
  unfolding cover_level
  none_above j a zero h = refl
  none_above j a (suc m) h =
      filter-append (λ (r : Range). r.level == j) (map (range a) (found a)) (flat_map (cover_level lo hi w) (range_with_len (a + 1) m))
      ∙ ap₂ (λ k l. k ++ l) (other_level a j (ne_eqb a j (λ e. omega (arith, h, e))) (found a)) (none_above j (a + 1) m (omega (arith, h)))

  one_level : (j a m : ℕ) → a ≤ j → j < a + m → of_level j (flat_map (cover_level lo hi w) (range_with_len a m)) ≡ cover_level lo hi w j
  unfolding cover_level
  one_level j a zero h k = absurd (omega (arith, h, k))
  one_level j a (suc m) h k =
      let rest = flat_map (cover_level lo hi w) (range_with_len (a + 1) m) in
      let split = filter-append (λ (r : Range). r.level == j) (map (range a) (found a)) rest in
      elim (cases_lt a j) [
        | inl low ↦ split ∙ ap₂ (λ k l. k ++ l) (other_level a j (ne_eqb a j (λ e. omega (arith, low, e))) (found a)) (one_level j (a + 1) m (omega (arith, low)) (omega (arith, k)))
        | inr high ↦
            let same : a ≡ j = omega (arith, h, high) in
            split ∙ (ap₂ (λ k l. k ++ l) (same_level a j (eq-eqb a j same) (found a)) (none_above j (a + 1) m (omega (arith, same))) ∙ (append-nil (map (range a) (found a)) ∙ ap (λ i. map (range i) (found i)) same))
      ]

  -- the ranges of a level in a cover by levels below w
  pub level_of_cover : (j : ℕ) → j < w → of_level j (cover lo hi w) ≡ cover_level lo hi w j
  unfolding cover
  level_of_cover j h = one_level j 0 w (omega arith) (omega (arith, h))

  -- ---- the bits of an index

  low_index : (n j c : ℕ) → j ≤ n → hi < 2 ^ n → in_cover lo hi w j c ≡ true → c < 2 ^ (n - j)
  low_index n j c h below passes =
      let lies = (and_parts (lies_in lo hi j c) ((j + 1 == w) || not (lies_in lo hi (j + 1) (c / 2))) passes).0 in
      let ends = leb-true ((c + 1) * 2 ^ j) (hi + 1) (and_parts (leb lo (c * 2 ^ j)) (leb ((c + 1) * 2 ^ j) (hi + 1)) lies).1 in
      let whole : 2 ^ (n - j + j) ≡ 2 ^ (n - j) * 2 ^ j = pow-add 2 (n - j) j in
      let bits : n - j + j ≡ n = omega (arith, h) in
      let room : (c + 1) * 2 ^ j ≤ 2 ^ (n - j) * 2 ^ j = rw (← whole, bits) (omega (arith, ends, below)) in
      elim (cases_lt c (2 ^ (n - j))) [
        | inl low ↦ low
        | inr high ↦
            let reach : 2 ^ (n - j) * 2 ^ j ≤ c * 2 ^ j = mul-le-mul_right (2 ^ j) high in
            let next : (c + 1) * 2 ^ j ≡ c * 2 ^ j + 2 ^ j = next_times c (2 ^ j) in
            absurd (let some = pow_pos j in omega (arith, reach, next, room, some))
      ]
    where
      next_times : (c p : ℕ) → (c + 1) * p ≡ c * p + p
      next_times c p = omega arith

  low_indices : (P : Range → Type 0) (j : ℕ) → ((c : ℕ) → in_cover lo hi w j c ≡ true → P (range j c)) → (cs : List ℕ) → AllByRecursion P (map (range j) (filter (in_cover lo hi w j) cs))
  low_indices P j each [] = tt
  low_indices P j each (c ∷ cs) = by_test (in_cover lo hi w j c) (λ e. each c e) (low_indices P j each cs)
    where
      by_test : (b : Bool) → (b ≡ true → P (range j c)) → AllByRecursion P (map (range j) (filter (in_cover lo hi w j) cs)) → AllByRecursion P (map (range j) (cond b (c ∷ filter (in_cover lo hi w j) cs) (filter (in_cover lo hi w j) cs)))
      by_test true here rest = (here refl, rest)
      by_test false here rest = rest

  -- an index of level j has j bits less than the numbers
  pub level_low : (n j : ℕ) → j ≤ n → hi < 2 ^ n → AllByRecursion (λ r. r.index < 2 ^ (n - j)) (cover_level lo hi w j)
  unfolding cover_level
  level_low n j h below = low_indices (λ r. r.index < 2 ^ (n - j)) j (λ c e. low_index n j c h below e) (range_with_len 0 (hi + 1))

-- ---- slots

-- an index of level j has j bits less than the slot's numbers
pub slot_low : (n w : ℕ) (slot : Option Span) (j : ℕ) → w ≤ n → j < w → IfSome slot (IsSlot n w) → AllByRecursion (λ r. r.index < 2 ^ (n - j)) (slot_level w slot j)
slot_low n w None j inside h is = tt
slot_low n w (Some s) j inside h is = level_low s.lo s.hi w n j (omega (arith, inside, h)) is.below

pub at_place : {X : Type 0} (P : X → Type 0) (xs : List X) (k : ℕ) → AllByRecursion P xs → IfSome (slice_get xs k) P
at_place P [] k h = tt
at_place P (x ∷ xs) zero h = h.0
at_place P (x ∷ xs) (suc k) h = at_place P xs k h.1
