-- The secrets of a second round: their trees, that they are points, and what they say of positions.
use Rattle.std.proofs.Common.{◌≡◌, ℕ, zero, suc, ◌+◌, ◌-◌, ◌^◌, ◌<◌, ◌≤◌, Bool, true, false, List, [], ◌∷◌, ◌++◌, length, map, replicate, Option, Some, None, refl, sym, ap, ap₂, ◌∙◌, arith, IfSome, if◌then◌else◌}
use Rattle.std.specs.Prelude.{find, nat_le, nat_lt, slice_get, sum_by, unwrap_or}
use Rattle.std.specs.List.{AllByRecursion, flat_map, range_with_len}
use Rattle.std.proofs.Math.Nat.{div-eq_of_lt}
use Rattle.std.proofs.lemmas.Bool.{false≢true, leb-true}
use Rattle.std.proofs.lemmas.Bool.Decides.{nat_tests}
use Rattle.spl_words.specs.Secrets.{Secret, secret_tree}
use Rattle.spl_words.specs.declared.secret.KeySpec.{KeySpec}
use Rattle.spl_words.specs.declared.secret.TreeKind.TheVariants.{Point}
use Rattle.interval_keys.specs.Intervals.{Span, slot_value}
use Rattle.interval_keys.specs.Slots.{EachSpan}
use Rattle.aligned_ranges.specs.declared.ranges.Range.{Range}
use Rattle.query_reader.proofs.Lists.{all_at}
use Rattle.private_plan.specs.declared.plans.PlanKind.TheVariants as kind
use Rattle.private_plan.specs.Plans.{level_trees, position_bits, tree}
use Rattle.private_plan.specs.Rounds.{first_depth, second_secrets}
use Rattle.private_plan.specs.Slots.{IsPointOf, IsSlot, cover_secrets, level_secrets, position_slots, range_secret, slot_level}
use Rattle.private_plan.proofs.PointSecrets.{slots_points, slots_tell, told}
use Rattle.session_model.specs.Counts.{AreCounts}

-- ---- the bits of positions

module _ (rows : ℕ) (few : rows ≤ 262144) where
  -- the bits that are found tell so many rows apart
  found_enough : (a n : ℕ) → rows ≤ 2 ^ unwrap_or (find (λ q. nat_le rows (2 ^ q)) (range_with_len a n)) 18
  found_enough a zero = few
  found_enough a (suc n) = by_test (nat_le rows (2 ^ a)) (λ is. leb-true rows (2 ^ a) is) (found_enough (a + 1) n)
    where
      rest : Option ℕ
      rest = find (λ q. nat_le rows (2 ^ q)) (range_with_len (a + 1) n)

      by_test : (b : Bool) → (b ≡ true → rows ≤ 2 ^ a) → rows ≤ 2 ^ unwrap_or rest 18 → rows ≤ 2 ^ unwrap_or (if b then Some a else rest) 18
      by_test true enough later = enough refl
      by_test false enough later = later

  found_some : (a n : ℕ) → 1 ≤ a → 1 ≤ unwrap_or (find (λ q. nat_le rows (2 ^ q)) (range_with_len a n)) 18
  found_some a zero some = omega arith
  found_some a (suc n) some = by_test (nat_le rows (2 ^ a)) (found_some (a + 1) n (omega arith))
    where
      rest : Option ℕ
      rest = find (λ q. nat_le rows (2 ^ q)) (range_with_len (a + 1) n)

      by_test : (b : Bool) → 1 ≤ unwrap_or rest 18 → 1 ≤ unwrap_or (if b then Some a else rest) 18
      by_test true later = some
      by_test false later = later

  pub positions_fit : rows ≤ 2 ^ position_bits rows
  positions_fit = found_enough 1 18

  pub some_bits : 1 ≤ position_bits rows
  some_bits = found_some 1 18 (omega arith)

-- ---- the trees

range_tree : (d : ℕ) (r : Option Range) → secret_tree (range_secret d r) ≡ tree Point d
range_tree d None = refl
range_tree d (Some r) = refl

both_laid : (xs ys : List Secret) → map secret_tree (xs ++ ys) ≡ map secret_tree xs ++ map secret_tree ys
both_laid [] ys = refl
both_laid (x ∷ xs) ys = ap (λ l. secret_tree x ∷ l) (both_laid xs ys)

level_laid : (d : ℕ) (rs : List Range) → map secret_tree (level_secrets d rs) ≡ replicate 2 (tree Point d)
level_laid d rs = ap₂ (λ (a b : KeySpec). a ∷ b ∷ []) (range_tree d (slice_get rs 0)) (range_tree d (slice_get rs 1))

module _ (n : ℕ) where
  levels_laid : (level : ℕ → List Range) (js : List ℕ) → map secret_tree (flat_map (λ j. level_secrets (n - j) (level j)) js) ≡ flat_map (λ j. replicate 2 (tree Point (n - j))) js
  levels_laid level [] = refl
  levels_laid level (j ∷ js) =
      both_laid (level_secrets (n - j) (level j)) (flat_map (λ i. level_secrets (n - i) (level i)) js) ∙ ap₂ (λ k l. k ++ l) (level_laid (n - j) (level j)) (levels_laid level js)

  -- the trees of the covers of slots are those of as many slots
  pub covers_laid : (w from : ℕ) (l : List (Option Span)) → map secret_tree (flat_map (cover_secrets n w) l) ≡ flat_map (λ i. level_trees n w) (range_with_len from (length l))
  covers_laid w from [] = refl
  covers_laid w from (s ∷ l) = both_laid (cover_secrets n w s) (flat_map (cover_secrets n w) l) ∙ ap₂ (λ a b. a ++ b) (levels_laid (slot_level w s) (range_with_len 0 w)) (covers_laid w (from + 1) l)

-- the first tree of some slots is as deep as the numbers have bits
pub levels_begin : (n w slots : ℕ) → 1 ≤ w → 1 ≤ slots → first_depth (flat_map (λ (i : ℕ). level_trees n w) (range_with_len 0 slots)) ≡ n
levels_begin n zero slots some one = absurd (omega arith)
levels_begin n (suc w) zero some one = absurd (omega arith)
levels_begin n (suc w) (suc slots) some one = omega arith

-- ---- the slots of positions

module _ (rows : ℕ) (few : rows ≤ 262144) where
  abbrev q : ℕ
  q = position_bits rows

  slot_fits : (below upto : ℕ) → upto ≤ rows → (b : Bool) → nat_lt below upto ≡ b → IfSome {T = Span} (if b then Some (record { lo = below; hi = upto - 1 }) else None) (IsSlot q q)
  slot_fits below upto least false e = tt
  slot_fits below upto least true e =
      let less : below < upto = grind (arith, nat_tests) in
      let fit = positions_fit rows few in
      let low : below < 2 ^ q = omega (arith, less, fit, least) in
      let high : upto - 1 < 2 ^ q = omega (arith, less, fit, least) in
      record { order = omega (arith, less); below = high; agree = div-eq_of_lt low ∙ sym (div-eq_of_lt high) }

  each_fits : (counts : List ℕ) → AreCounts rows counts → AllByRecursion (λ s. IfSome s (IsSlot q q)) (position_slots counts)
  unfolding position_slots
  each_fits [] are = tt
  each_fits (below ∷ []) are = tt
  each_fits (below ∷ upto ∷ counts) are = (slot_fits below upto are.1 (nat_lt below upto) refl, each_fits counts are.2)

  slots_fit : (counts : List ℕ) → AreCounts rows counts → EachSpan (IsSlot q q) (position_slots counts)
  slots_fit counts are = all_at (λ (s : Option Span). IfSome s (IsSlot q q)) (position_slots counts) (each_fits counts are)

  pub second_points : (counts : List ℕ) → AreCounts rows counts → AllByRecursion (IsPointOf q) (second_secrets rows counts)
  second_points counts are = slots_points q q (omega arith) kind.Aligned true (some_bits rows few) refl (position_slots counts) (slots_fit counts are)

  -- what they say of a position adds to how many of the slots hold it
  pub second_tell : (counts : List ℕ) → AreCounts rows counts → (x : ℕ) → sum_by (told q x) (second_secrets rows counts) ≡ sum_by (λ s. slot_value s x) (position_slots counts)
  second_tell counts are x =
      slots_tell q q (omega arith) x kind.Aligned true (λ e. some_bits rows few) (λ e. absurd cc) refl (position_slots counts) (slots_fit counts are) (λ e. absurd (false≢true (sym e)))
