-- The secrets of a second round: their trees, and what they tell of positions.
use Rattle.std.proofs.Common.{◌≡◌, ℕ, zero, suc, ◌*◌, ◌≤◌, Bool, true, false, cond, nat_lt, nat_le, List, [], ◌∷◌, length, map, Ok, Option, refl, sym, ap, subst, ◌∙◌, arith, IfSome, if◌then◌else◌}
use Rattle.std.specs.Prelude.{sum_by}
use Rattle.std.specs.List.{AllByRecursion, flat_map, range_with_len}
use Rattle.std.proofs.lemmas.Bool.Decides.{nat_tests}
use Rattle.std.proofs.lemmas.List.{length-map}
use Rattle.std.proofs.Math.Nat.{mul-le-mul_right}
use Rattle.spl_words.specs.declared.secret.KeySpec.{KeySpec}
use Rattle.spl_words.specs.Secrets.{Secret, secret_tree, secret_value}
use Rattle.spl_values.specs.Shapes.{ShapeParts}
use Rattle.interval_keys.specs.Intervals.{Span, slot_value, threshold}
use Rattle.cell_merge.specs.Cells.{cell_width}
use Rattle.cell_merge.proofs.Lists.{each_weaker}
use Rattle.query_reader.specs.declared.checked.Checked.{Checked}
use Rattle.query_reader.specs.Accepted.{IsCheckedFor}
use Rattle.query_reader.proofs.Known.{checked_branches}
use Rattle.query_reader.proofs.Lists.{all_at}
use Rattle.private_plan.specs.declared.plans.PlanKind.{PlanKind}
use Rattle.private_plan.specs.declared.plans.PlanKind.TheVariants as kind
use Rattle.private_plan.specs.Counts.{counts_taken}
use Rattle.private_plan.specs.Plans.{for_each_slot, kind_of, last_bits, level_trees, plan_for, plan_of, position_bits, rounds_of, second_trees, slot_trees}
use Rattle.private_plan.specs.Rounds.{first_depth, second_secrets, secrets_in}
use Rattle.private_plan.specs.Slots.{IsPointOf, IsSlot, count_below, position_slots}
use Rattle.private_plan.proofs.Accepted.{slots_laid}
use Rattle.private_plan.proofs.Counts.{bits_most, length-slots, second_few}
use Rattle.private_plan.proofs.FirstTrees.{HasDepth, of_trees, one_slot, slot_first, slot_some, slots_deep, times_some}
use Rattle.private_plan.proofs.PointSecrets.{slots_points, slots_tell, told}
use Rattle.private_plan.proofs.PositionSlots.{bits_enough, bits_some, slots_valid}

-- ---- rounds

some_rounds : (k : PlanKind) → 1 ≤ rounds_of k
some_rounds kind.Sum = omega arith
some_rounds kind.Point = omega arith
some_rounds kind.Aligned = omega arith
some_rounds kind.Position = omega arith

-- every plan has a round
pub has_round : (checked : Checked) (shape : ShapeParts) → 1 ≤ (plan_of checked shape).rounds
has_round checked shape = some_rounds (kind_of checked shape.schema.columns)

-- ---- thresholds

pub counts_below : (bits lo x : ℕ) → secret_value (count_below bits lo) x ≡ (if nat_lt x lo then 1 else 0)
counts_below bits zero x = none (nat_le x 0)
  where
    none : (b : Bool) → cond {A = ℕ} b 0 0 ≡ (if nat_lt x 0 then 1 else 0)
    none true = grind (arith, nat_tests)
    none false = grind (arith, nat_tests)
counts_below bits (suc n) x = ap (λ b. cond b 1 0) (same x n)
  where
    same : (x n : ℕ) → nat_le x n ≡ nat_lt x (suc n)
    same x n = grind (arith, nat_tests)

pub counts_upto : (bits hi x : ℕ) → secret_value (threshold bits hi 1) x ≡ (if nat_le x hi then 1 else 0)
counts_upto bits hi x = refl

-- ---- trees

pub pair_count : (n : ℕ) (counts : List ℕ) → length counts ≡ n * 2 → length (position_slots counts) ≡ n
unfolding position_slots
pair_count zero [] two = refl
pair_count (suc n) [] two = absurd (omega (arith, two))
pair_count zero (x ∷ []) two = absurd (omega (arith, two))
pair_count (suc n) (x ∷ []) two = absurd (omega (arith, two))
pair_count zero (x ∷ y ∷ counts) two = absurd (omega (arith, two))
pair_count (suc n) (x ∷ y ∷ counts) two = ap (λ k. suc k) (pair_count n counts (omega (arith, two)))

second_for : (k : PlanKind) (checked : Checked) (shape : ShapeParts) (counts : List ℕ) → k ≡ kind.Position
    → length counts ≡ (plan_for k checked.range checked.branches checked.bits (last_bits shape.schema.columns checked.columns) (cell_width checked.spec) shape.rows).first_words
    → map secret_tree (second_secrets shape.rows counts) ≡ (plan_for k checked.range checked.branches checked.bits (last_bits shape.schema.columns checked.columns) (cell_width checked.spec) shape.rows).second
second_for kind.Sum checked shape counts is many = absurd cc
second_for kind.Point checked shape counts is many = absurd cc
second_for kind.Aligned checked shape counts is many = absurd cc
second_for kind.Position checked shape counts is many =
    let q = position_bits shape.rows in
    let pairs = pair_count checked.branches counts (many ∙ length-slots checked.branches (slot_trees kind.Position checked.range checked.bits (last_bits shape.schema.columns checked.columns))) in
    slots_laid q kind.Aligned checked.range q 0 (position_slots counts) ∙ ap (λ n. flat_map (λ (i : ℕ). level_trees q q) (range_with_len 0 n)) pairs

pub second_laid : (checked : Checked) (shape : ShapeParts) (params counts : List ℕ) → (plan_of checked shape).kind ≡ kind.Position → length counts ≡ (plan_of checked shape).first_words
    → map secret_tree (secrets_in checked shape params (record { number = 2; counts = counts })) ≡ (plan_of checked shape).second
second_laid checked shape params counts is many = second_for (kind_of checked shape.schema.columns) checked shape counts is many

-- ---- how many, and how deep

times_few : (a b : ℕ) → a ≤ 8 → b ≤ 36 → a * b ≤ 288
times_few a b h i = let one : a * b ≤ 8 * b = mul-le-mul_right b h in omega (arith, one, i)

module _ (checked : Checked) (shape : ShapeParts) (is : (plan_of checked shape).kind ≡ kind.Position) where
  -- the trees of one slot
  abbrev each : List KeySpec
  each = level_trees (position_bits shape.rows) (position_bits shape.rows)

  second_is : (plan_of checked shape).second ≡ for_each_slot checked.branches each
  second_is = ap (λ k. for_each_slot checked.branches (second_trees k shape.rows)) is

  each_some : 1 ≤ length each
  each_some = let bits = position_bits shape.rows in slot_some bits bits (bits_some shape.rows) (omega arith) kind.Aligned true (λ e. bits_some shape.rows)

  pub second_first : IsCheckedFor checked shape.schema → first_depth (plan_of checked shape).second ≡ position_bits shape.rows
  second_first accepted =
      let bits = position_bits shape.rows in
      ap first_depth second_is ∙ (one_slot each checked.branches each_some (checked_branches checked shape.schema accepted).0 ∙ slot_first bits bits (bits_some shape.rows) (omega arith) kind.Aligned true (bits_some shape.rows))

  second_deep : AllByRecursion (HasDepth 18) (plan_of checked shape).second
  second_deep =
      let bits = position_bits shape.rows in
      let deep = slots_deep bits bits (bits_some shape.rows) (omega arith) kind.Aligned true (range_with_len 0 checked.branches) in
      subst (AllByRecursion (HasDepth 18)) (sym second_is)
      (each_weaker (HasDepth bits) (HasDepth 18) (λ t d. record { some = d.some; most = let m = d.most in omega (arith, m, bits_most shape.rows) }) (for_each_slot checked.branches each) deep)

  module _ (params counts : List ℕ) (many : length counts ≡ (plan_of checked shape).first_words) where
    abbrev told_secrets : List Secret
    told_secrets = secrets_in checked shape params (record { number = 2; counts = counts })

    pub second_depths : AllByRecursion (λ s. HasDepth 18 (secret_tree s)) told_secrets
    second_depths = of_trees 18 told_secrets (subst (AllByRecursion (HasDepth 18)) (sym (second_laid checked shape params counts is many)) second_deep)

    pub second_count : IsCheckedFor checked shape.schema → (1 ≤ length told_secrets) × (length told_secrets ≤ 288)
    second_count accepted =
        let branches = checked_branches checked shape.schema accepted in
        let count = sym (length-map told_secrets secret_tree) ∙ (ap length (second_laid checked shape params counts is many) ∙ (ap length second_is ∙ length-slots checked.branches each)) in
        let some = times_some checked.branches (length each) branches.0 each_some in
        let most = times_few checked.branches (length each) branches.1 (second_few kind.Position shape.rows) in
        (omega (arith, count, some), omega (arith, count, most))

-- ---- positions

module _ (rows : ℕ) (counts : List ℕ) (few : rows ≤ 262144) (taken : counts_taken rows 0 counts ≡ Ok tt) where
  abbrev q : ℕ
  q = position_bits rows

  same : q ≤ q
  same = omega arith

  pub positions_are_points : AllByRecursion (IsPointOf q) (second_secrets rows counts)
  positions_are_points =
      slots_points q q same kind.Aligned true (bits_some rows) refl (position_slots counts)
      (all_at (λ (slot : Option Span). IfSome slot (IsSlot q q)) (position_slots counts) (slots_valid rows q 0 counts (bits_enough rows few) taken))

  pub positions_tell : (position : ℕ) → sum_by (told q position) (second_secrets rows counts) ≡ sum_by (λ slot. slot_value slot position) (position_slots counts)
  positions_tell position =
      slots_tell q q same position kind.Aligned true (λ e. bits_some rows) (λ e. absurd cc) refl (position_slots counts)
      (all_at (λ (slot : Option Span). IfSome slot (IsSlot q q)) (position_slots counts) (slots_valid rows q 0 counts (bits_enough rows few) taken)) (λ e. absurd cc)
