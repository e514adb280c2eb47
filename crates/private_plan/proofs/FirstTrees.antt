-- The trees of a plan's first round, and of its secrets: how many there are, and how deep.
use Rattle.std.proofs.Common.{◌≡◌, ℕ, zero, suc, ◌+◌, ◌-◌, ◌*◌, ◌<◌, ◌≤◌, Bool, true, false, List, [], ◌∷◌, ◌++◌, length, get_or, map, replicate, refl, sym, ap, subst, ◌∙◌, arith}
use Rattle.std.specs.Prelude.{All, IsTrue, nat_le, if◌then◌else◌}
use Rattle.std.specs.List.{AllByRecursion, flat_map, list_all, range_with_len}
use Rattle.std.proofs.lemmas.Bool.Decides.{nat_tests}
use Rattle.std.proofs.lemmas.List.Elements.{All-head, All-tail}
use Rattle.std.proofs.lemmas.List.{length-map}
use Rattle.std.proofs.Math.Nat.{mul-le-mul_right}
use Rattle.spl_words.specs.declared.secret.KeySpec.{KeySpec}
use Rattle.spl_words.specs.declared.secret.TreeKind.TheVariants.{Point, Threshold}
use Rattle.spl_words.specs.Secrets.{Secret, secret_tree}
use Rattle.spl_values.specs.Kinds.{is_kind, bits_of}
use Rattle.spl_values.specs.Shapes.{ColumnParts, ShapeParts, IsColumn, IsSchema}
use Rattle.spl_values.specs.Tables.{column_bits}
use Rattle.spl_values.specs.declared.kinds.ColumnType.{ColumnType}
use Rattle.spl_values.specs.declared.kinds.ColumnType.TheVariants.{Uint, Text, Enum}
use Rattle.cell_merge.proofs.Lists.{each_weaker}
use Rattle.query_grammar.specs.Canonical.{IsQuery}
use Rattle.query_reader.specs.declared.checked.Checked.{Checked}
use Rattle.query_reader.specs.Accepted.{IsCheckedFor}
use Rattle.query_reader.specs.Params.{AreParamsFor}
use Rattle.query_reader.proofs.Known.{checked_bits, checked_columns, checked_some, checked_branches, checked_narrow, checked_least}
use Rattle.private_plan.specs.declared.plans.PlanKind.{PlanKind}
use Rattle.private_plan.specs.declared.plans.PlanKind.TheVariants as kind
use Rattle.private_plan.specs.Plans.{is_sum, kind_for, kind_of, last_bits, plan_of, slot_trees, tree}
use Rattle.private_plan.specs.Rounds.{first_depth, first_round, secrets_in}
use Rattle.private_plan.proofs.Accepted.{secrets_laid}
use Rattle.private_plan.proofs.Counts.{last_in_key, length-levels, length-slots}

-- a tree of 1 to n levels
pub record HasDepth (n : ℕ) (t : KeySpec) : Type 0 where
  pub some : 1 ≤ t.depth
  pub most : t.depth ≤ n

pub each-append : {A : Type 0} (P : A → Type 0) (xs ys : List A) → AllByRecursion P xs → AllByRecursion P ys → AllByRecursion P (xs ++ ys)
each-append P [] ys h i = i
each-append P (x ∷ xs) ys h i = (h.0, each-append P xs ys h.1 i)

-- the depth of the first of some trees that others may follow
first_of_both : (xs ys : List KeySpec) → 1 ≤ length xs → first_depth (xs ++ ys) ≡ first_depth xs
first_of_both [] ys h = absurd (omega (arith, h))
first_of_both (x ∷ xs) ys h = refl

module _ (n w : ℕ) (some : 1 ≤ n) (inside : w ≤ n) where
  abbrev deepest : HasDepth n (tree Point n)
  deepest = record { some = some; most = omega arith }

  levels_deep : (a m : ℕ) → a + m ≤ n → AllByRecursion (HasDepth n) (flat_map (λ j. replicate 2 (tree Point (n - j))) (range_with_len a m))
  levels_deep a zero h = tt
  levels_deep a (suc m) h =
      let here : HasDepth n (tree Point (n - a)) = record { some = omega (arith, h); most = omega arith } in
      (here, (here, levels_deep (a + 1) m (omega (arith, h))))

  thresholds_deep : AllByRecursion (HasDepth n) (replicate 2 (tree Threshold n))
  thresholds_deep = let here : HasDepth n (tree Threshold n) = record { some = some; most = omega arith } in (here, (here, tt))

  slot_deep : (k : PlanKind) (range : Bool) → AllByRecursion (HasDepth n) (slot_trees k range n w)
  slot_deep kind.Sum false = (deepest, tt)
  slot_deep kind.Sum true = thresholds_deep
  slot_deep kind.Point range = (deepest, tt)
  slot_deep kind.Aligned range = levels_deep 0 w (omega (arith, inside))
  slot_deep kind.Position range = thresholds_deep

  pub slots_deep : (k : PlanKind) (range : Bool) (is : List ℕ) → AllByRecursion (HasDepth n) (flat_map (λ i. slot_trees k range n w) is)
  slots_deep k range [] = tt
  slots_deep k range (i ∷ is) = each-append (HasDepth n) (slot_trees k range n w) (flat_map (λ j. slot_trees k range n w) is) (slot_deep k range) (slots_deep k range is)

  -- the first tree of a slot has all bits
  pub slot_first : (k : PlanKind) (range : Bool) → 1 ≤ w → first_depth (slot_trees k range n w) ≡ n
  slot_first kind.Sum false wide = refl
  slot_first kind.Sum true wide = refl
  slot_first kind.Point range wide = refl
  slot_first kind.Aligned range wide = let e : w ≡ suc (w - 1) = omega (arith, wide) in rw e (omega arith)
  slot_first kind.Position range wide = refl

  pub slot_some : (k : PlanKind) (range : Bool) → (k ≡ kind.Aligned → 1 ≤ w) → 1 ≤ length (slot_trees k range n w)
  slot_some kind.Sum false wide = omega arith
  slot_some kind.Sum true wide = omega arith
  slot_some kind.Point range wide = omega arith
  slot_some kind.Aligned range wide = let least = wide refl in omega (arith, length-levels n w, least)
  slot_some kind.Position range wide = omega arith

  slot_most : (k : PlanKind) (range : Bool) → (k ≡ kind.Aligned → w ≤ 16) → length (slot_trees k range n w) ≤ 32
  slot_most kind.Sum false narrow = omega arith
  slot_most kind.Sum true narrow = omega arith
  slot_most kind.Point range narrow = omega arith
  slot_most kind.Aligned range narrow = let least = narrow refl in omega (arith, length-levels n w, least)
  slot_most kind.Position range narrow = omega arith

-- ---- the last column of a key

some_bits : (kind : ColumnType) → IsTrue (is_kind kind) → 1 ≤ bits_of kind
some_bits (Uint b) h = grind (arith, nat_tests)
some_bits (Text k) h = grind (arith, nat_tests)
some_bits (Enum labels) h = grind (arith, nat_tests)

column_some : (cs : List ColumnParts) (i : ℕ) → All IsColumn cs → i < length cs → 1 ≤ column_bits cs i
unfolding column_bits
column_some [] i typed h = absurd (omega (arith, h))
column_some (c ∷ cs) zero typed h = some_bits c.kind (All-head IsColumn c cs typed).typed
column_some (c ∷ cs) (suc i) typed h = column_some cs i (All-tail IsColumn c cs typed) (omega (arith, h))

narrow_kind : (sums range : Bool) (w : ℕ) → kind_for sums range w ≡ kind.Aligned → w ≤ 16
narrow_kind true range w is = absurd cc
narrow_kind false false w is = absurd cc
narrow_kind false true w is = by_test (nat_le w 16) refl is where
  by_test : (b : Bool) → nat_le w 16 ≡ b → (if b then kind.Aligned else kind.Position) ≡ kind.Aligned → w ≤ 16
  by_test true e is = grind (arith, nat_tests)
  by_test false e is = absurd cc

-- ---- how many

pub times_some : (a b : ℕ) → 1 ≤ a → 1 ≤ b → 1 ≤ a * b
times_some (suc a) (suc b) h i = omega arith
times_some zero b h i = absurd (omega arith)
times_some (suc a) zero h i = absurd (omega arith)

times_most : (a b : ℕ) → a ≤ 8 → b ≤ 32 → a * b ≤ 256
times_most a b h i = let one : a * b ≤ 8 * b = mul-le-mul_right b h in omega (arith, one, i)

pub of_trees : (n : ℕ) (secrets : List Secret) → AllByRecursion (HasDepth n) (map secret_tree secrets) → AllByRecursion (λ s. HasDepth n (secret_tree s)) secrets
of_trees n [] h = tt
of_trees n (s ∷ ss) h = (h.0, of_trees n ss h.1)

pub one_slot : (trees : List KeySpec) (m : ℕ) → 1 ≤ length trees → 1 ≤ m → first_depth (flat_map (λ (i : ℕ). trees) (range_with_len 0 m)) ≡ first_depth trees
one_slot trees zero some slots = absurd (omega (arith, slots))
one_slot trees (suc m) some slots = first_of_both trees (flat_map (λ (i : ℕ). trees) (range_with_len 1 m)) some

module _ (checked : Checked) (shape : ShapeParts) (params : List ℕ) (h : IsCheckedFor checked shape.schema) (q : IsQuery checked.query) where
  pub last_inside : last_bits shape.schema.columns checked.columns ≤ checked.bits
  last_inside = let low = last_in_key shape.schema.columns checked.columns (checked_some checked shape.schema h q) in omega (arith, low, checked_bits checked shape.schema h)

  abbrev secrets : List Secret
  secrets = secrets_in checked shape params first_round

  count_same : AreParamsFor checked shape.schema params → length secrets ≡ length (plan_of checked shape).first
  count_same are = sym (length-map secrets secret_tree) ∙ ap length (secrets_laid checked shape params h q are)

  pub last_some : IsSchema shape.schema → 1 ≤ last_bits shape.schema.columns checked.columns
  last_some schema =
      let places = checked.columns in
      let some = checked_some checked shape.schema h q in
      column_some shape.schema.columns (get_or places (length places - 1) 0) schema.columns (checked_columns checked shape.schema h (length places - 1) 0 (omega (arith, some)))

  -- the trees of a first round have 1 to as many levels as the joined key has bits
  pub trees_deep : IsSchema shape.schema → AllByRecursion (HasDepth checked.bits) (plan_of checked shape).first
  trees_deep schema =
      slots_deep checked.bits (last_bits shape.schema.columns checked.columns) (checked_least checked shape.schema h q schema) last_inside (kind_of checked shape.schema.columns) checked.range (range_with_len 0 checked.branches)

  -- and the first of them has all
  pub first_deep : IsSchema shape.schema → first_depth (plan_of checked shape).first ≡ checked.bits
  first_deep schema =
      let n = checked.bits in
      let w = last_bits shape.schema.columns checked.columns in
      let k = kind_of checked shape.schema.columns in
      let wide = last_some schema in
      let least = checked_least checked shape.schema h q schema in
      one_slot (slot_trees k checked.range n w) checked.branches (slot_some n w least last_inside k checked.range (λ e. wide)) (checked_branches checked shape.schema h).0
      ∙ slot_first n w least last_inside k checked.range wide

  -- each tree of a first round has 1 to 128 levels
  pub secret_depths : AreParamsFor checked shape.schema params → IsSchema shape.schema → AllByRecursion (λ s. HasDepth 128 (secret_tree s)) secrets
  secret_depths are schema =
      let narrow = checked_narrow checked shape.schema h in
      let deep = each_weaker (HasDepth checked.bits) (HasDepth 128) (λ t d. record { some = d.some; most = let m = d.most in omega (arith, m, narrow) }) (plan_of checked shape).first (trees_deep schema) in
      of_trees 128 secrets (subst (λ ts. AllByRecursion (HasDepth 128) ts) (sym (secrets_laid checked shape params h q are)) deep)

  -- and there are 1 to 256 of them
  pub secret_count : AreParamsFor checked shape.schema params → IsSchema shape.schema → (1 ≤ length secrets) × (length secrets ≤ 256)
  secret_count are schema =
      let n = checked.bits in
      let w = last_bits shape.schema.columns checked.columns in
      let k = kind_of checked shape.schema.columns in
      let least = checked_least checked shape.schema h q schema in
      let branches = checked_branches checked shape.schema h in
      let count = count_same are ∙ length-slots checked.branches (slot_trees k checked.range n w) in
      let some = times_some checked.branches (length (slot_trees k checked.range n w)) branches.0 (slot_some n w least last_inside k checked.range (λ e. last_some schema)) in
      let most = times_most checked.branches (length (slot_trees k checked.range n w)) branches.1 (slot_most n w least last_inside k checked.range (λ e. narrow_kind (list_all is_sum checked.spec.items) checked.range w e)) in
      (omega (arith, count, some), omega (arith, count, most))
