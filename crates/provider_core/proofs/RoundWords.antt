-- What the words of a round need and are: those of a sum, of counts, and of a cell for each key.
use Rattle.std.proofs.Common.{◌≡◌, ◌≤◌, ◌+◌, ◌-◌, ◌*◌, ◌⊎◌, inl, inr, ℕ, List, [], ◌∷◌, None, Some, length, map, replicate, slice_get, eqb, refl, sym, ap, ap₂, subst, ◌∙◌, arith}
use Rattle.std.specs.List.{AllByRecursion}
use Rattle.std.proofs.lemmas.List.{length-replicate}
use Rattle.std.proofs.Math.Nat.{mul-one}
use Rattle.spl_words.specs.Folds.{Gains, fold_words}
use Rattle.spl_words.specs.declared.provider.Provider.{Provider}
use Rattle.spl_words.specs.declared.secret.KeySpec.{KeySpec}
use Rattle.spl_values.specs.Tables.{TableParts}
use Rattle.cell_merge.specs.Cells.{cell_width}
use Rattle.cell_merge.specs.declared.cells.CellTable.{CellTable}
use Rattle.seed_expansion.specs.Expanders.{Meaning}
use Rattle.key_frames.specs.declared.frame.KeyFrame.{KeyFrame}
use Rattle.key_frames.specs.declared.keys.Key.{Key}
use Rattle.key_frames.specs.Frames.{FrameAllowed}
use Rattle.key_frames.specs.Keys.{KeyAllowed, depth}
use Rattle.key_frames.specs.Trees.{key_share, key_shares, key_tree}
use Rattle.query_reader.specs.declared.checked.Checked.{Checked}
use Rattle.count_sum.specs.SumPairs.{sum_pairs}
use Rattle.private_plan.specs.declared.plans.PlanKind.{PlanKind}
use Rattle.private_plan.specs.declared.plans.PlanKind.TheVariants as kind
use Rattle.private_plan.specs.Plans.{kind_of, plan_of}
use Rattle.private_plan.specs.Lengths.{trees_in}
use Rattle.private_plan.specs.Rounds.{Entries, ones, each_tree, first_tree, folds_for}
use Rattle.session_model.specs.Answers.{answer_words, entries_of}
use Rattle.session_model.proofs.Answers.{one_fold}
use Rattle.provider_core.specs.Cells.{AreCells, by_number, first_bits, first_entries, first_levels, words_at, words_in}
use Rattle.provider_core.specs.Layouts.{layout_differs}
use Rattle.provider_core.proofs.AnswerWords.{keys_answer, level_folds, words_of_key}
use Rattle.provider_core.proofs.KeyDepths.{first_key, one_round, tree_count, trees_are, trees_exact, words_count, words_of}
use Rattle.provider_core.proofs.LevelCells.{round_width}
use Rattle.provider_core.proofs.Places.{all_places, numbered}
use Rattle.provider_core.proofs.RowSums.{from_zeros}

-- ---- a round whose trees bring a cell each

-- a plan of such a kind in such a round
pub record BringsCells (k : PlanKind) (round : ℕ) : Type 0 where
  pub sum : k ≡ kind.Sum → ⊥
  pub one : (k ≡ kind.Position → ⊥) → round ≡ 1
  pub two : k ≡ kind.Position → round ≡ 2

begin_entries : (k : PlanKind) (round : ℕ) → BringsCells k round → first_entries k round ≡ by_number round 0
begin_entries kind.Sum round has = absurd (has.sum refl)
begin_entries kind.Point round has = (let first : round ≡ 1 = has.one (λ is. cc) in rw first refl)
begin_entries kind.Aligned round has = (let first : round ≡ 1 = has.one (λ is. cc) in rw first refl)
begin_entries kind.Position round has = (let second : round ≡ 2 = has.two refl in rw second refl)

cell_words : (k : PlanKind) (round n width : ℕ) → BringsCells k round → words_of (eqb round 2) k n width ≡ n * width
cell_words kind.Sum round n width has = absurd (has.sum refl)
cell_words kind.Point round n width has = (let first : round ≡ 1 = has.one (λ is. cc) in rw first refl)
cell_words kind.Aligned round n width has = (let first : round ≡ 1 = has.one (λ is. cc) in rw first refl)
cell_words kind.Position round n width has = (let second : round ≡ 2 = has.two refl in rw second refl)

-- the folds of counts
ones_folds : (k : PlanKind) (round : ℕ) (trees : List KeySpec) → k ≡ kind.Position → round ≡ 1 → folds_for k round trees ≡ each_tree (λ t. ones) 0 trees
ones_folds k round trees is first = rw (is, first) refl

first_deep : (keys : List Key) → AllByRecursion KeyAllowed keys → first_levels keys ≤ 128
first_deep [] h = omega arith
first_deep (k ∷ ks) h = h.0.count

module _ (table : TableParts) (checked : Checked) (frame : KeyFrame) (allowed : FrameAllowed frame) (placed : layout_differs 0 (trees_in (plan_of checked table.shape) frame.round) frame.keys ≡ None) where
  abbrev the_kind : PlanKind
  the_kind = kind_of checked table.shape.schema.columns

  abbrev width : ℕ
  width = cell_width checked.spec

  pub levels_deep : first_levels frame.keys ≤ 128
  levels_deep = first_deep frame.keys allowed.keys

  -- the first round of points and of an aligned cover
  pub first_brings : (k : PlanKind) → k ≡ the_kind → (k ≡ kind.Point) ⊎ (k ≡ kind.Aligned) → BringsCells the_kind frame.round
  first_brings k is (inl point) = (let here : the_kind ≡ kind.Point = sym is ∙ point in record { sum = λ s. absurd (let x = sym here ∙ s in cc); one = one_round table checked frame allowed placed; two = λ s. absurd (let x = sym here ∙ s in cc) })
  first_brings k is (inr aligned) = (let here : the_kind ≡ kind.Aligned = sym is ∙ aligned in record { sum = λ s. absurd (let x = sym here ∙ s in cc); one = one_round table checked frame allowed placed; two = λ s. absurd (let x = sym here ∙ s in cc) })

  -- the second round of counts
  pub second_brings : (k : PlanKind) → k ≡ the_kind → k ≡ kind.Position → frame.round ≡ 2 → BringsCells the_kind frame.round
  second_brings k is counts second = (let here : the_kind ≡ kind.Position = sym is ∙ counts in record { sum = λ s. absurd (let x = sym here ∙ s in cc); one = λ other. absurd (other here); two = λ s. second })

  length_of : (words : List ℕ) (n : ℕ) → words ≡ replicate (words_in (plan_of checked table.shape) frame.round) 0 → words_of (eqb frame.round 2) the_kind (length frame.keys) width ≡ n → length words ≡ n
  length_of words n room is = ap length room ∙ length-replicate (words_in (plan_of checked table.shape) frame.round) 0 ∙ words_count table checked frame allowed placed ∙ is

  -- ---- cells

  module _ (has : BringsCells the_kind frame.round) where
    pub level_cells : (c : CellTable) → AreCells checked table (first_entries the_kind frame.round) (first_bits the_kind frame.round checked table) c → AreCells checked table (by_number frame.round 0) (first_levels frame.keys) c
    level_cells c are =
        subst (λ n. AreCells checked table (by_number frame.round 0) n c) (sym (first_key table checked frame allowed placed))
        (subst (λ en. AreCells checked table en (first_bits the_kind frame.round checked table) c) (begin_entries the_kind frame.round has) are)

    pub level_room : (words : List ℕ) → words ≡ replicate (words_in (plan_of checked table.shape) frame.round) 0 → length words ≡ length frame.keys * width
    level_room words room = length_of words (length frame.keys * width) room (cell_words the_kind frame.round (length frame.keys) width has)

    points_deep : the_kind ≡ kind.Point → AllByRecursion (λ (t : KeySpec). t.depth ≡ first_levels frame.keys) (map key_tree frame.keys)
    points_deep point =
        let first = has.one (λ s. absurd (let x = sym point ∙ s in cc)) in
        let same = first_key table checked frame allowed placed ∙ ap (λ (k : PlanKind). first_bits k frame.round checked table) point in
        subst (λ n. AllByRecursion (λ (t : KeySpec). t.depth ≡ n) (map key_tree frame.keys)) (sym same) (trees_exact table checked frame allowed placed (λ s. absurd (let x = sym point ∙ s in cc)) first)

    pub level_answer : (e : Meaning) (p : Provider) (tree : ℕ) (words : List ℕ) → tree ≡ first_tree (plan_of checked table.shape) frame.round → length words ≡ length frame.keys * width
        → ((j : ℕ) (key : Key) → slice_get frame.keys j ≡ Some key → words_at width j words ≡ fold_words (key_share e p (tree + j) key) (entries_of checked table (by_number frame.round (first_levels frame.keys - depth key))) width)
        → words ≡ answer_words e p frame.round frame.keys checked table
    level_answer e p tree words is whole each =
        let entries : KeySpec → Entries = λ t. by_number frame.round (first_levels frame.keys - t.depth) in
        let here : (j : ℕ) (key : Key) → slice_get frame.keys j ≡ Some key → words_at width j words ≡ words_of_key e p tree checked table entries (0 + j) key = λ j key h.
        each j key h
        ∙ ap (fold_words (key_share e p (tree + j) key) (entries_of checked table (by_number frame.round (first_levels frame.keys - depth key)))) (sym (round_width checked table frame.round (first_levels frame.keys - depth key)))
        ∙ ap (λ n. words_of_key e p tree checked table entries n key) (let s : j ≡ 0 + j = omega arith in s) in
        all_places width (words_of_key e p tree checked table entries) 0 frame.keys words whole here
        ∙ ap (λ n. numbered (words_of_key e p n checked table entries) 0 frame.keys) is
        ∙ sym (keys_answer e p checked table frame.round frame.keys entries (trees_are table checked frame allowed placed) (level_folds the_kind frame.round (map key_tree frame.keys) has.sum has.one has.two points_deep))

  -- ---- counts

  module _ (counts : the_kind ≡ kind.Position) (first : frame.round ≡ 1) where
    pub ones_room : (words : List ℕ) → words ≡ replicate (words_in (plan_of checked table.shape) frame.round) 0 → length words ≡ length frame.keys * 1
    ones_room words room = length_of words (length frame.keys * 1) room (ap₂ (λ (r : ℕ) (k : PlanKind). words_of (eqb r 2) k (length frame.keys) width) first counts ∙ sym (mul-one (length frame.keys)))

    pub ones_answer : (e : Meaning) (p : Provider) (tree : ℕ) (words : List ℕ) → tree ≡ first_tree (plan_of checked table.shape) frame.round → length words ≡ length frame.keys * 1
        → ((j : ℕ) (key : Key) → slice_get frame.keys j ≡ Some key → words_at 1 j words ≡ fold_words (key_share e p (tree + j) key) (entries_of checked table ones) 1)
        → words ≡ answer_words e p frame.round frame.keys checked table
    ones_answer e p tree words is whole each =
        let entries : KeySpec → Entries = λ t. ones in
        all_places 1 (words_of_key e p tree checked table entries) 0 frame.keys words whole (λ j key h. each j key h ∙ ap (λ n. words_of_key e p tree checked table entries n key) (let s : j ≡ 0 + j = omega arith in s))
        ∙ ap (λ n. numbered (words_of_key e p n checked table entries) 0 frame.keys) is
        ∙ sym (keys_answer e p checked table frame.round frame.keys entries (trees_are table checked frame allowed placed) (ones_folds the_kind frame.round (map key_tree frame.keys) counts first))

  -- ---- sums

  module _ (sums : the_kind ≡ kind.Sum) where
    pub sum_first : frame.round ≡ 1
    sum_first = one_round table checked frame allowed placed (λ s. absurd (let x = sym sums ∙ s in cc))

    pub sum_room : (words : List ℕ) → words ≡ replicate (words_in (plan_of checked table.shape) frame.round) 0 → length words ≡ width
    sum_room words room = length_of words width room (ap₂ (λ (r : ℕ) (k : PlanKind). words_of (eqb r 2) k (length frame.keys) width) sum_first sums)

    pub sum_answer : (e : Meaning) (p : Provider) (zeros words : List ℕ) → zeros ≡ replicate (words_in (plan_of checked table.shape) frame.round) 0 → length words ≡ length zeros
        → Gains (key_shares e p 0 frame.keys) (sum_pairs checked table) (length zeros) zeros words → words ≡ answer_words e p frame.round frame.keys checked table
    sum_answer e p zeros words room same gains =
        let long = sum_room zeros room in
        let many : words_in (plan_of checked table.shape) frame.round ≡ width = sym (length-replicate (words_in (plan_of checked table.shape) frame.round) 0) ∙ sym (ap length room) ∙ long in
        let count = rw sum_first at (tree_count table checked frame allowed placed) in
        from_zeros (key_shares e p 0 frame.keys) (sum_pairs checked table) width zeros words (room ∙ ap (λ n. replicate n 0) many) (same ∙ long) (rw long at gains)
        ∙ sym (one_fold e p frame.round frame.keys checked table sums sum_first (sym count))
