-- Plans that are built: of sums, or of trees that bring a cell each.
use Rattle.std.proofs.Common.{◌≡◌, ℕ, ◌+◌, ◌-◌, ◌⊎◌, Bool, true, false, List, [], ◌∷◌, inl, inr, refl, sym, ap, ap₂, subst, arith}
use Rattle.std.specs.Prelude.{nat_le, if◌then◌else◌}
use Rattle.std.specs.List.{AllByRecursion, flat_map, range_with_len}
use Rattle.spl_words.specs.declared.secret.KeySpec.{KeySpec}
use Rattle.spl_words.specs.declared.secret.TreeKind.TheVariants.{Point as PointTree}
use Rattle.spl_values.specs.Shapes.{ShapeParts}
use Rattle.query_reader.specs.declared.checked.Checked.{Checked}
use Rattle.private_plan.specs.declared.plans.PlanKind.{PlanKind}
use Rattle.private_plan.specs.declared.plans.PlanKind.TheVariants as kind
use Rattle.private_plan.specs.Plans.{brings_cells, for_each_slot, is_built, kind_for, last_bits, plan_of, slot_trees, tree}
use Rattle.private_plan.specs.Rounds.{Fold, by_key, each_tree, first_depth, folds_for}

pub built_kinds : (k : PlanKind) → is_built k ≡ true → (k ≡ kind.Sum) ⊎ (brings_cells k ≡ true)
built_kinds kind.Sum built = inl refl
built_kinds kind.Point built = inr refl
built_kinds kind.Aligned built = inr refl
built_kinds kind.Position built = absurd cc

-- a plan of sums has sums alone
pub sums_of_kind : (sums range : Bool) (w : ℕ) → kind_for sums range w ≡ kind.Sum → sums ≡ true
sums_of_kind true range w is = refl
sums_of_kind false false w is = absurd cc
sums_of_kind false true w is = absurd (by_test (nat_le w 16) is)
  where
    by_test : (b : Bool) → (if b then kind.Aligned else kind.Position) ≡ kind.Sum → ⊥
    by_test true is = cc
    by_test false is = cc

-- ---- folds of trees that bring a cell each

-- trees of one point for each slot are all as deep
all_deep : (n : ℕ) (slots : List ℕ) → AllByRecursion (λ (t : KeySpec). t.depth ≡ n) (flat_map (λ i. tree PointTree n ∷ []) slots)
all_deep n [] = tt
all_deep n (i ∷ is) = (refl, all_deep n is)

pub points_deep : (checked : Checked) (shape : ShapeParts) → (plan_of checked shape).kind ≡ kind.Point → AllByRecursion (λ (t : KeySpec). t.depth ≡ checked.bits) (plan_of checked shape).first
points_deep checked shape is =
    let w = last_bits shape.schema.columns checked.columns in
    subst (λ k. AllByRecursion (λ (t : KeySpec). t.depth ≡ checked.bits) (for_each_slot checked.branches (slot_trees k checked.range checked.bits w))) (sym is) (all_deep checked.bits (range_with_len 0 checked.branches))

module _ (bits : ℕ) where
  -- a fold for each tree, over the cells by the key without the bits by which the tree is less deep
  abbrev pub cell_folds : List KeySpec → List Fold
  cell_folds trees = each_tree (λ t. by_key (bits - t.depth)) 0 trees

  point_folds : (i : ℕ) (trees : List KeySpec) → AllByRecursion (λ (t : KeySpec). t.depth ≡ bits) trees → each_tree (λ t. by_key 0) i trees ≡ each_tree (λ t. by_key (bits - t.depth)) i trees
  unfolding each_tree
  point_folds i [] deep = refl
  point_folds i (t ∷ ts) deep =
      let level : 0 ≡ bits - t.depth = omega (arith, deep.0) in
      ap₂ (λ (n : ℕ) (fs : List Fold). record { first = i; count = 1; entries = by_key n } ∷ fs) level (point_folds (i + 1) ts deep.1)

  pub folds_are : (k : PlanKind) (trees : List KeySpec) → brings_cells k ≡ true → first_depth trees ≡ bits → (k ≡ kind.Point → AllByRecursion (λ (t : KeySpec). t.depth ≡ bits) trees) → folds_for k 1 trees ≡ cell_folds trees
  folds_are kind.Sum trees brings first deep = absurd cc
  folds_are kind.Point trees brings first deep = point_folds 0 trees (deep refl)
  folds_are kind.Aligned trees brings first deep = ap (λ n. each_tree (λ t. by_key (n - t.depth)) 0 trees) first
  folds_are kind.Position trees brings first deep = absurd cc
