-- Keys that lie as a plan asks: of which trees they are, how deep these are, and how many words answer them.
use Rattle.std.proofs.Common.{◌≡◌, ◌<◌, ◌≤◌, ◌-◌, ◌*◌, ◌+◌, ℕ, zero, suc, Bool, true, false, cond, List, [], ◌∷◌, ◌++◌, length, map, replicate, Option, Some, None, Ok, refl, sym, ap, ap₂, subst, ◌∙◌, arith, eqb}
use Rattle.std.specs.List.{AllByRecursion, flat_map, range_with_len}
use Rattle.std.proofs.lemmas.Bool.{and_parts, eqb-true, eqb-false}
use Rattle.std.proofs.lemmas.List.{length-map}
use Rattle.std.proofs.Math.Nat.{mul-le-mul_right}
use Rattle.spl_words.specs.declared.secret.KeySpec.{KeySpec}
use Rattle.spl_words.specs.declared.secret.TreeKind.{TreeKind}
use Rattle.spl_words.specs.declared.secret.TreeKind.TheVariants as tree_kind
use Rattle.spl_values.specs.Tables.{TableParts}
use Rattle.cell_merge.specs.Cells.{cell_width}
use Rattle.key_frames.specs.declared.frame.KeyFrame.{KeyFrame}
use Rattle.key_frames.specs.declared.keys.Key.{Key}
use Rattle.key_frames.specs.declared.keys.Key.TheVariants.{Point, Threshold}
use Rattle.key_frames.specs.Frames.{FrameAllowed}
use Rattle.key_frames.specs.Keys.{depth}
use Rattle.key_frames.specs.Trees.{key_tree}
use Rattle.query_reader.specs.declared.checked.Checked.{Checked}
use Rattle.private_plan.specs.declared.plans.PlanKind.{PlanKind}
use Rattle.private_plan.specs.declared.plans.PlanKind.TheVariants as kind
use Rattle.private_plan.specs.Plans.{kind_of, last_bits, level_trees, plan_of, position_bits, second_trees, slot_trees, tree, words_back}
use Rattle.private_plan.specs.Lengths.{trees_in}
use Rattle.private_plan.specs.Rounds.{first_depth, first_tree}
use Rattle.private_plan.proofs.Counts.{slot_few, slots_few}
use Rattle.private_plan.proofs.FirstTrees.{each-append}
use Rattle.provider_core.specs.Asking.{if_placed, keys_placed}
use Rattle.provider_core.specs.Cells.{first_bits, first_levels, words_in}
use Rattle.provider_core.specs.Layouts.{has_kind, is_key_of, layout_differs}

-- ---- the trees of the keys

both_same : (i : ℕ) (b : Bool) (o : Option ℕ) → cond b o (Some i) ≡ None → (b ≡ true) × (o ≡ None)
both_same i true o h = (refl, h)
both_same i false o h = absurd cc

kind_same : (k : TreeKind) (key : Key) → has_kind k key ≡ true → k ≡ (key_tree key).kind
kind_same tree_kind.Point (Point p) h = refl
kind_same tree_kind.Point (Threshold p) h = absurd cc
kind_same tree_kind.Threshold (Point p) h = absurd cc
kind_same tree_kind.Threshold (Threshold p) h = refl

tree_same : (t : KeySpec) (key : Key) → is_key_of t key ≡ true → t ≡ key_tree key
tree_same t key h =
    let parts = and_parts (has_kind t.kind key) (eqb t.depth (depth key)) h in
    ap₂ tree (kind_same t.kind key parts.0) (eqb-true t.depth (depth key) parts.1)

layout_trees : (i : ℕ) (ts : List KeySpec) (ks : List Key) → layout_differs i ts ks ≡ None → ts ≡ map key_tree ks
unfolding layout_differs
layout_trees i [] [] h = refl
layout_trees i [] (k ∷ ks) h = absurd cc
layout_trees i (t ∷ ts) [] h = absurd cc
layout_trees i (t ∷ ts) (k ∷ ks) h =
    let both = both_same i (is_key_of t k) (layout_differs (i + 1) ts ks) h in
    ap₂ (λ x xs. x ∷ xs) (tree_same t k both.0) (layout_trees (i + 1) ts ks both.1)

each_key : (P : KeySpec → Type 0) (ks : List Key) → AllByRecursion P (map key_tree ks) → AllByRecursion (λ k. P (key_tree k)) ks
each_key P [] h = tt
each_key P (k ∷ ks) h = (h.0, each_key P ks h.1)

-- ---- the trees of a plan

each_slot : (P : KeySpec → Type 0) (trees : List KeySpec) (slots : List ℕ) → AllByRecursion P trees → AllByRecursion P (flat_map (λ i. trees) slots)
each_slot P trees [] h = tt
each_slot P trees (s ∷ ss) h = each-append P trees (flat_map (λ i. trees) ss) h (each_slot P trees ss h)

-- where there are trees, the first of them has so many levels
abbrev Begins : ℕ → List KeySpec → Type 0
Begins n ts = 0 < length ts → first_depth ts ≡ n

begins_again : (n : ℕ) (ts : List KeySpec) (slots : List ℕ) → Begins n ts → Begins n (flat_map (λ i. ts) slots)
begins_again n ts [] h some = absurd (omega (arith, some))
begins_again n [] (s ∷ ss) h some = begins_again n [] ss h some
begins_again n (t ∷ ts) (s ∷ ss) h some = h (omega arith)

levels_within : (n : ℕ) (js : List ℕ) → AllByRecursion (λ (t : KeySpec). t.depth ≤ n) (flat_map (λ j. replicate 2 (tree tree_kind.Point (n - j))) js)
levels_within n [] = tt
levels_within n (j ∷ js) = (omega arith, (omega arith, levels_within n js))

levels_begin : (n w : ℕ) → Begins n (level_trees n w)
levels_begin n zero some = absurd (omega (arith, some))
levels_begin n (suc w) some = omega arith

none_each : (trees : List KeySpec) (slots : List ℕ) → trees ≡ [] → flat_map (λ i. trees) slots ≡ []
none_each trees [] none = refl
none_each trees (s ∷ ss) none = ap₂ (λ a b. a ++ b) none (none_each trees ss none)

module _ (n w rows : ℕ) (range : Bool) (slots : List ℕ) where
  -- the trees of a round, which is the second or the first
  abbrev trees_of : PlanKind → Bool → List KeySpec
  trees_of k second = cond second (flat_map (λ i. second_trees k rows) slots) (flat_map (λ i. slot_trees k range n w) slots)

  -- the levels of its first tree
  abbrev bits_of : PlanKind → Bool → ℕ
  bits_of kind.Sum second = n
  bits_of kind.Point second = n
  bits_of kind.Aligned second = n
  bits_of kind.Position second = cond second (position_bits rows) n

  slot_within : (k : PlanKind) (range : Bool) → AllByRecursion (λ (t : KeySpec). t.depth ≤ n) (slot_trees k range n w)
  slot_within kind.Sum false = (omega arith, tt)
  slot_within kind.Sum true = (omega arith, (omega arith, tt))
  slot_within kind.Point range = (omega arith, tt)
  slot_within kind.Aligned range = levels_within n (range_with_len 0 w)
  slot_within kind.Position range = (omega arith, (omega arith, tt))

  -- no tree is deeper
  within : (k : PlanKind) (second : Bool) → AllByRecursion (λ (t : KeySpec). t.depth ≤ bits_of k second) (trees_of k second)
  within kind.Sum true = each_slot (λ t. t.depth ≤ n) [] slots tt
  within kind.Point true = each_slot (λ t. t.depth ≤ n) [] slots tt
  within kind.Aligned true = each_slot (λ t. t.depth ≤ n) [] slots tt
  within kind.Position true = let q = position_bits rows in each_slot (λ t. t.depth ≤ q) (level_trees q q) slots (levels_within q (range_with_len 0 q))
  within kind.Sum false = each_slot (λ t. t.depth ≤ n) (slot_trees kind.Sum range n w) slots (slot_within kind.Sum range)
  within kind.Point false = each_slot (λ t. t.depth ≤ n) (slot_trees kind.Point range n w) slots (slot_within kind.Point range)
  within kind.Aligned false = each_slot (λ t. t.depth ≤ n) (slot_trees kind.Aligned range n w) slots (slot_within kind.Aligned range)
  within kind.Position false = each_slot (λ t. t.depth ≤ n) (slot_trees kind.Position range n w) slots (slot_within kind.Position range)

  slot_begins : (k : PlanKind) (range : Bool) → Begins n (slot_trees k range n w)
  slot_begins kind.Sum false some = refl
  slot_begins kind.Sum true some = refl
  slot_begins kind.Point range some = refl
  slot_begins kind.Aligned range some = levels_begin n w some
  slot_begins kind.Position range some = refl

  begins : (k : PlanKind) (second : Bool) → Begins (bits_of k second) (trees_of k second)
  begins kind.Sum true = begins_again n [] slots (λ some. absurd (omega (arith, some)))
  begins kind.Point true = begins_again n [] slots (λ some. absurd (omega (arith, some)))
  begins kind.Aligned true = begins_again n [] slots (λ some. absurd (omega (arith, some)))
  begins kind.Position true = let q = position_bits rows in begins_again q (level_trees q q) slots (levels_begin q q)
  begins kind.Sum false = begins_again n (slot_trees kind.Sum range n w) slots (slot_begins kind.Sum range)
  begins kind.Point false = begins_again n (slot_trees kind.Point range n w) slots (slot_begins kind.Point range)
  begins kind.Aligned false = begins_again n (slot_trees kind.Aligned range n w) slots (slot_begins kind.Aligned range)
  begins kind.Position false = begins_again n (slot_trees kind.Position range n w) slots (slot_begins kind.Position range)

  -- the trees of a first round are all as deep, but for an aligned cover
  exact : (k : PlanKind) → (k ≡ kind.Aligned → ⊥) → AllByRecursion (λ (t : KeySpec). t.depth ≡ n) (trees_of k false)
  exact kind.Sum other = each_slot (λ t. t.depth ≡ n) (slot_trees kind.Sum range n w) slots (sums range)
    where
      sums : (range : Bool) → AllByRecursion (λ (t : KeySpec). t.depth ≡ n) (slot_trees kind.Sum range n w)
      sums false = (refl, tt)
      sums true = (refl, (refl, tt))
  exact kind.Point other = each_slot (λ t. t.depth ≡ n) (slot_trees kind.Point range n w) slots (refl, tt)
  exact kind.Aligned other = absurd (other refl)
  exact kind.Position other = each_slot (λ t. t.depth ≡ n) (slot_trees kind.Position range n w) slots (refl, (refl, tt))

  -- only counts have a second round with trees
  counts_second : (k : PlanKind) → 0 < length (trees_of k true) → k ≡ kind.Position
  counts_second kind.Sum some = (let none = ap (λ (ts : List KeySpec). length ts) (none_each [] slots refl) in absurd (omega (arith, some, none)))
  counts_second kind.Point some = (let none = ap (λ (ts : List KeySpec). length ts) (none_each [] slots refl) in absurd (omega (arith, some, none)))
  counts_second kind.Aligned some = (let none = ap (λ (ts : List KeySpec). length ts) (none_each [] slots refl) in absurd (omega (arith, some, none)))
  counts_second kind.Position some = refl

-- ---- how many words

-- so many trees bring so many words, in a second round or the first
abbrev pub words_of : Bool → PlanKind → ℕ → ℕ → ℕ
words_of second k trees width = cond second (trees * width) (words_back k trees width)

words_same : (second : Bool) (k : PlanKind) (A B : List KeySpec) (n width : ℕ) → length (cond second A B) ≡ n → cond second (length A * width) (words_back k (length B) width) ≡ words_of second k n width
words_same true k A B n width same = ap (λ m. m * width) same
words_same false k A B n width same = ap (λ m. words_back k m width) same

cells_fit : (trees width : ℕ) → (1 ≤ trees) × (trees ≤ 512) → (1 ≤ width) × (width ≤ 128) → (1 ≤ trees * width) × (trees * width ≤ 65536)
cells_fit trees width t w =
    let least : 1 * width ≤ trees * width = mul-le-mul_right width t.0 in
    let most : trees * width ≤ 512 * width = mul-le-mul_right width t.1 in
    (omega (arith, least, w.0), omega (arith, most, w.1))

words_fit_of : (second : Bool) (k : PlanKind) (trees width : ℕ) → (1 ≤ trees) × (trees ≤ 512) → (1 ≤ width) × (width ≤ 128) → (1 ≤ words_of second k trees width) × (words_of second k trees width ≤ 65536)
words_fit_of true k trees width t w = cells_fit trees width t w
words_fit_of false kind.Sum trees width t w = (w.0, omega (arith, w.1))
words_fit_of false kind.Point trees width t w = cells_fit trees width t w
words_fit_of false kind.Aligned trees width t w = cells_fit trees width t w
words_fit_of false kind.Position trees width t w = (t.0, omega (arith, t.1))

-- ---- the keys of a frame

placed_none : (o : Option ℕ) → if_placed o ≡ Ok tt → o ≡ None
placed_none None h = refl
placed_none (Some i) h = absurd cc

-- keys of a frame that is answered lie as the plan asks
pub placed_layout : (table : TableParts) (checked : Checked) (frame : KeyFrame) → keys_placed table frame checked ≡ Ok tt → layout_differs 0 (trees_in (plan_of checked table.shape) frame.round) frame.keys ≡ None
unfolding keys_placed
placed_layout table checked frame h = placed_none (layout_differs 0 (trees_in (plan_of checked table.shape) frame.round) frame.keys) h

module _ (table : TableParts) (checked : Checked) (frame : KeyFrame) (allowed : FrameAllowed frame) (placed : layout_differs 0 (trees_in (plan_of checked table.shape) frame.round) frame.keys ≡ None) where
  abbrev the_kind : PlanKind
  the_kind = kind_of checked table.shape.schema.columns

  abbrev columns_bits : ℕ
  columns_bits = last_bits table.shape.schema.columns checked.columns

  abbrev slots : List ℕ
  slots = range_with_len 0 checked.branches

  pub trees_are : trees_in (plan_of checked table.shape) frame.round ≡ map key_tree frame.keys
  trees_are = layout_trees 0 (trees_in (plan_of checked table.shape) frame.round) frame.keys placed

  pub tree_count : length (trees_in (plan_of checked table.shape) frame.round) ≡ length frame.keys
  tree_count = ap (λ (ts : List KeySpec). length ts) trees_are ∙ length-map frame.keys key_tree

  -- a frame of a second round is one of counts
  pub one_round : (the_kind ≡ kind.Position → ⊥) → frame.round ≡ 1
  one_round other = by_round (eqb frame.round 2) refl tree_count where
    by_round : (b : Bool) → eqb frame.round 2 ≡ b → length (trees_of checked.bits columns_bits table.shape.rows checked.range slots the_kind b) ≡ length frame.keys → frame.round ≡ 1
    by_round true is count = absurd (other (counts_second checked.bits columns_bits table.shape.rows checked.range slots the_kind (omega (arith, count, allowed.count.0))))
    by_round false is count = (let not = eqb-false frame.round 2 is in omega (arith, not, allowed.round.0, allowed.round.1))

  -- how many bits the numbers of the round have
  bits_are : (k : PlanKind) → first_bits k frame.round checked table ≡ bits_of checked.bits columns_bits table.shape.rows checked.range slots k (eqb frame.round 2)
  bits_are kind.Sum = refl
  bits_are kind.Point = refl
  bits_are kind.Aligned = refl
  bits_are kind.Position = refl

  -- the first key has as many levels
  pub first_key : first_levels frame.keys ≡ first_bits the_kind frame.round checked table
  first_key =
      let some = begins checked.bits columns_bits table.shape.rows checked.range slots the_kind (eqb frame.round 2) (omega (arith, tree_count, allowed.count.0)) in
      ap first_depth (sym trees_are) ∙ some ∙ sym (bits_are the_kind)

  -- and no key has more
  pub depths_within : AllByRecursion (λ (k : Key). depth k ≤ first_levels frame.keys) frame.keys
  depths_within =
      let P : ℕ → KeySpec → Type 0 = λ n t. t.depth ≤ n in
      let all = within checked.bits columns_bits table.shape.rows checked.range slots the_kind (eqb frame.round 2) in
      each_key (P (first_levels frame.keys)) frame.keys (subst (λ n. AllByRecursion (P n) (map key_tree frame.keys)) (sym (first_key ∙ bits_are the_kind)) (subst (AllByRecursion (P (bits_of checked.bits columns_bits table.shape.rows checked.range slots the_kind (eqb frame.round 2)))) trees_are all))

  -- in a first round that isn't of an aligned cover, none has fewer
  pub trees_exact : (the_kind ≡ kind.Aligned → ⊥) → frame.round ≡ 1 → AllByRecursion (λ (t : KeySpec). t.depth ≡ checked.bits) (map key_tree frame.keys)
  trees_exact other first =
      let P : KeySpec → Type 0 = λ t. t.depth ≡ checked.bits in
      let trees = rw first at trees_are in
      subst (AllByRecursion P) trees (exact checked.bits columns_bits table.shape.rows checked.range slots the_kind other)

  pub depths_exact : (the_kind ≡ kind.Aligned → ⊥) → frame.round ≡ 1 → AllByRecursion (λ (k : Key). depth k ≡ checked.bits) frame.keys
  depths_exact other first = each_key (λ t. t.depth ≡ checked.bits) frame.keys (trees_exact other first)

  -- ---- numbers

  -- the trees of a first round are few
  pub tree_few : checked.branches ≤ 8 → first_tree (plan_of checked table.shape) frame.round ≤ 512
  tree_few eight = by_round (eqb frame.round 2) tree_count where
    by_round : (b : Bool) → length (trees_of checked.bits columns_bits table.shape.rows checked.range slots the_kind b) ≡ length frame.keys → cond b (length (plan_of checked table.shape).first) 0 ≤ 512
    by_round true count =
        let counts = counts_second checked.bits columns_bits table.shape.rows checked.range slots the_kind (omega (arith, count, allowed.count.0)) in
        let trees = slot_trees the_kind checked.range checked.bits columns_bits in
        let few = slot_few the_kind checked.range checked.bits columns_bits (λ is. absurd (let same = sym counts ∙ is in cc)) in
        slots_few checked.branches trees (plan_of checked table.shape).first eight (omega (arith, few)) refl
    by_round false count = omega arith

  -- the words of an answer, from the number of its keys
  pub words_count : words_in (plan_of checked table.shape) frame.round ≡ words_of (eqb frame.round 2) the_kind (length frame.keys) (cell_width checked.spec)
  words_count = words_same (eqb frame.round 2) the_kind (plan_of checked table.shape).second (plan_of checked table.shape).first (length frame.keys) (cell_width checked.spec) tree_count

  -- are 1 to 2^16
  pub words_fit : (1 ≤ cell_width checked.spec) × (cell_width checked.spec ≤ 128) → (1 ≤ words_in (plan_of checked table.shape) frame.round) × (words_in (plan_of checked table.shape) frame.round ≤ 65536)
  words_fit wide = rw words_count (words_fit_of (eqb frame.round 2) the_kind (length frame.keys) (cell_width checked.spec) allowed.count wide)
