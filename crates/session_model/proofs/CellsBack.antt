-- The words of both answers add to the words of the cells that come back.
use Rattle.std.proofs.Common.{◌≡◌, ℕ, ◌+◌, ◌*◌, ◌<◌, true, List, [], ◌∷◌, length, take, drop, inl, inr, refl, sym, ap, ap₂, subst, ◌∙◌, arith}
use Rattle.std.specs.Prelude.{◌-◌, map, slice_index}
use Rattle.std.specs.List.{flat_map, list_all, range_with_len}
use Rattle.std.proofs.Math.Nat.{mod-eq_of_lt}
use Rattle.std.proofs.lemmas.List.{append-nil, length-map}
use Rattle.std.proofs.lemmas.List.Folds.{flat_map-map}
use Rattle.spl_words.specs.Words.{plus}
use Rattle.spl_words.specs.Folds.{fold_word, fold_words}
use Rattle.spl_words.specs.declared.secret.KeySpec.{KeySpec}
use Rattle.spl_words.specs.Secrets.{Secret, secret_tree}
use Rattle.spl_words.specs.declared.provider.Provider.{Provider}
use Rattle.spl_words.specs.declared.provider.Provider.TheVariants.{Zero, One}
use Rattle.spl_values.specs.Shapes.{IsSchema}
use Rattle.spl_values.specs.Tables.{TableParts, IsTable}
use Rattle.cell_merge.specs.Rows.{Row}
use Rattle.cell_merge.specs.Cells.{cell, cell_width}
use Rattle.cell_merge.specs.TableRows.{adds_in}
use Rattle.seed_expansion.specs.Expanders.{Meaning, IsPure}
use Rattle.query_grammar.specs.Canonical.{IsQuery}
use Rattle.query_reader.specs.declared.checked.Checked.{Checked}
use Rattle.query_reader.specs.Accepted.{IsCheckedFor}
use Rattle.query_reader.specs.Matching.{matching_rows}
use Rattle.query_reader.specs.Params.{AreParamsFor}
use Rattle.count_sum.specs.SumPairs.{joined_key, sum_pairs}
use Rattle.key_frames.specs.declared.keys.Key.{Key}
use Rattle.key_frames.specs.Trees.{key_list, key_shares, key_tree}
use Rattle.key_frames.proofs.TreeLaws.{trees_same}
use Rattle.private_plan.specs.declared.plans.PlanKind.{PlanKind}
use Rattle.private_plan.specs.declared.plans.PlanKind.TheVariants as kind
use Rattle.private_plan.specs.Plans.{IsBuilt, brings_cells, is_built, is_sum, kind_of, last_bits, plan_of, words_back}
use Rattle.private_plan.specs.Rounds.{Entries, Fold, by_key, first_round, first_tree, folds_in, secrets_in}
use Rattle.private_plan.proofs.Accepted.{secrets_laid}
use Rattle.private_plan.proofs.FirstTrees.{first_deep}
use Rattle.private_plan.proofs.Telling.{are_points}
use Rattle.session_model.specs.Answers.{answer_words, entries_of, entry_width, words_of_fold}
use Rattle.session_model.specs.Cells.{cells_back, each_told, first_answer, rows_back, rows_for, told_rows}
use Rattle.session_model.proofs.Answers.{answers_add, one_fold}
use Rattle.session_model.proofs.BackRows.{cells_small, picked_small, sum_rows, told_back, told_picked}
use Rattle.session_model.proofs.CellSums.{added_at, length-cell, same_lengths, wordwise}
use Rattle.session_model.proofs.CellWords.{AreWords, word_small, words_both}
use Rattle.session_model.proofs.KeptRows.{kept_below}
use Rattle.session_model.proofs.Plans.{built_kinds, cell_folds, folds_are, points_deep, sums_of_kind}
use Rattle.session_model.proofs.TreeWords.{both_words, by_tree, length-tree_words, length-words, points_tell, tree_words, trees_add}

-- ---- words

fold_words_small : (f : ℕ → ℕ) (entries : List (ℕ × List ℕ)) (ks : List ℕ) → AreWords (map (fold_word f entries) ks)
fold_words_small f entries [] = tt
fold_words_small f entries (k ∷ ks) = (omega arith, fold_words_small f entries ks)

folds_small : (e : Meaning) (p : Provider) (tree : ℕ) (keys : List Key) (checked : Checked) (t : TableParts) (folds : List Fold) → AreWords (flat_map (words_of_fold e p tree keys checked t) folds)
folds_small e p tree keys checked t [] = tt
folds_small e p tree keys checked t (f ∷ folds) =
    words_both (words_of_fold e p tree keys checked t f) (flat_map (words_of_fold e p tree keys checked t) folds) (fold_words_small (key_shares e p (tree + f.first) (take f.count (drop f.first keys))) (entries_of checked t f.entries) (range_with_len 0 (entry_width checked f.entries))) (folds_small e p tree keys checked t folds)

pub answers_small : (e : Meaning) (p : Provider) (round : ℕ) (keys : List Key) (checked : Checked) (t : TableParts) → AreWords (answer_words e p round keys checked t)
unfolding answer_words
answers_small e p round keys checked t = let plan = plan_of checked t.shape in folds_small e p (first_tree plan round) keys checked t (folds_in plan round)

-- ---- answers

-- the words of an answer of trees that bring a cell each are those of a fold for each key
pub folds_answer : (e : Meaning) (p : Provider) (keys : List Key) (checked : Checked) (t : TableParts) → IsSchema t.shape.schema → IsCheckedFor checked t.shape.schema → IsQuery checked.query
    → brings_cells (plan_of checked t.shape).kind ≡ true → answer_words e p 1 keys checked t ≡ flat_map (words_of_fold e p 0 keys checked t) (cell_folds checked.bits (plan_of checked t.shape).first)
unfolding answer_words
folds_answer e p keys checked t schema accepted form brings =
    let plan = plan_of checked t.shape in
    ap (λ (fs : List Fold). flat_map (words_of_fold e p 0 keys checked t) fs) (folds_are checked.bits plan.kind plan.first brings (first_deep checked t.shape [] accepted form schema) (points_deep checked t.shape))

module _ (checked : Checked) (t : TableParts) (params : List ℕ) (roots : List (ℕ × ℕ)) (valid : IsTable t) (accepted : IsCheckedFor checked t.shape.schema) (form : IsQuery checked.query)
    (known : AreParamsFor checked t.shape.schema params) (same : length roots ≡ length (secrets_in checked t.shape params first_round)) where
  abbrev asked : List Secret
  asked = secrets_in checked t.shape params first_round

  abbrev the_kind : PlanKind
  the_kind = kind_of checked t.shape.schema.columns

  abbrev spec_cell : List Row → List ℕ
  spec_cell = cell (adds_in t.shape.schema.columns) checked.spec

  laid : map secret_tree asked ≡ (plan_of checked t.shape).first
  laid = secrets_laid checked t.shape params accepted form known

  keys_count : (e : Meaning) (p : Provider) → length (key_list e p 0 asked roots) ≡ length (plan_of checked t.shape).first
  keys_count e p = sym (length-map (key_list e p 0 asked roots) key_tree) ∙ ap length (trees_same e p 0 asked roots same ∙ laid)

  -- an answer to a sum
  sum_answer : (e : Meaning) (p : Provider) → the_kind ≡ kind.Sum → first_answer e p checked t params roots ≡ fold_words (key_shares e p 0 (key_list e p 0 asked roots)) (sum_pairs checked t) (cell_width checked.spec)
  sum_answer e p sum = one_fold e p 1 (key_list e p 0 asked roots) checked t sum refl (keys_count e p)

  abbrev by_keys : KeySpec → Entries
  by_keys tree = by_key (checked.bits - tree.depth)

  -- an answer of trees that bring a cell each
  tree_answer : (e : Meaning) (p : Provider) → brings_cells the_kind ≡ true → first_answer e p checked t params roots ≡ tree_words checked t by_keys e p 0 asked roots
  tree_answer e p brings =
      let keys = key_list e p 0 asked roots in
      folds_answer e p keys checked t valid.shape.schema accepted form brings
      ∙ (ap (λ ts. flat_map (words_of_fold e p 0 keys checked t) (cell_folds checked.bits ts)) (sym laid) ∙ by_tree checked t by_keys e p 0 keys 0 0 asked roots refl same refl)

  -- ---- how long they are

  sum_back : the_kind ≡ kind.Sum → cells_back checked t params ≡ spec_cell (matching_rows checked params t)
  sum_back sum = ap (λ l. flat_map spec_cell l) (sum_rows checked t params sum) ∙ append-nil (spec_cell (matching_rows checked params t))

  abbrev told : Secret → List ℕ
  told s = spec_cell (told_rows checked t s)

  abbrev told_long : (s : Secret) → length (told s) ≡ cell_width checked.spec
  told_long s = length-cell (adds_in t.shape.schema.columns) checked.spec (told_rows checked t s)

  tree_back : brings_cells the_kind ≡ true → cells_back checked t params ≡ flat_map told asked
  tree_back brings = ap (λ l. flat_map spec_cell l) (told_back checked t params brings) ∙ flat_map-map spec_cell (told_rows checked t) asked

  pub answer_length : (e : Meaning) (p : Provider) → IsBuilt checked t.shape.schema.columns → length (first_answer e p checked t params roots) ≡ length (cells_back checked t params)
  answer_length e p built =
      elim (built_kinds the_kind built) [
        | inl sum ↦
            ap length (sum_answer e p sum)
            ∙ (length-words (fold_word (key_shares e p 0 (key_list e p 0 asked roots)) (sum_pairs checked t)) (cell_width checked.spec)
            ∙ sym (ap length (sum_back sum) ∙ length-cell (adds_in t.shape.schema.columns) checked.spec (matching_rows checked params t)))
        | inr brings ↦ ap length (tree_answer e p brings) ∙ (length-tree_words checked t by_keys told told_long e p 0 asked roots same ∙ ap length (sym (tree_back brings)))
      ]

  -- ---- what they add to

  module _ (e : Meaning) (pure : IsPure e) where
    sums_add : the_kind ≡ kind.Sum → wordwise (first_answer e Zero checked t params roots) (first_answer e One checked t params roots) ≡ cells_back checked t params
    sums_add sum =
        let rows = matching_rows checked params t in
        let width = cell_width checked.spec in
        let f = fold_word (key_shares e Zero 0 (key_list e Zero 0 asked roots)) (sum_pairs checked t) in
        let g = fold_word (key_shares e One 0 (key_list e One 0 asked roots)) (sum_pairs checked t) in
        let back = spec_cell rows in
        let whole : length back ≡ width = length-cell (adds_in t.shape.schema.columns) checked.spec rows in
        let small : AreWords back = subst (λ (l : List ℕ). AreWords l) (sum_back sum) (cells_small checked t valid accepted params) in
        let sums : list_all is_sum checked.spec.items ≡ true = sums_of_kind (list_all is_sum checked.spec.items) checked.range (last_bits t.shape.schema.columns checked.columns) sum in
        let each : (k : ℕ) → k < length back → plus (f k) (g k) ≡ slice_index back k =
        λ k here. answers_add e pure checked t params roots valid accepted form known sums same k (omega (arith, here, whole)) ∙ mod-eq_of_lt (word_small back k small here) in
        ap₂ wordwise (sum_answer e Zero sum) (sum_answer e One sum) ∙ (both_words f g back width whole each ∙ sym (sum_back sum))

    cells_add : brings_cells the_kind ≡ true → wordwise (first_answer e Zero checked t params roots) (first_answer e One checked t params roots) ≡ cells_back checked t params
    cells_add brings =
        let points = are_points checked t.shape params valid.shape.schema accepted form known brings in
        let small = λ (s : Secret). picked_small checked t valid accepted (told_rows checked t s) (told_picked checked t (joined_key checked t) checked.bits s) in
        ap₂ wordwise (tree_answer e Zero brings) (tree_answer e One brings)
        ∙ (trees_add checked t by_keys told told_long e pure 0 asked roots same (points_tell checked t (joined_key checked t) checked.bits (kept_below checked t valid accepted) small asked points) ∙ sym (tree_back brings))

    -- word by word they add to the cells that come back
    pub both_add : IsBuilt checked t.shape.schema.columns → wordwise (first_answer e Zero checked t params roots) (first_answer e One checked t params roots) ≡ cells_back checked t params
    both_add built =
        elim (built_kinds the_kind built) [
          | inl sum ↦ sums_add sum
          | inr brings ↦ cells_add brings
        ]

    pub word_added : IsBuilt checked t.shape.schema.columns → (k : ℕ) → k < length (cells_back checked t params)
        → plus (slice_index (first_answer e Zero checked t params roots) k) (slice_index (first_answer e One checked t params roots) k) ≡ slice_index (cells_back checked t params) k
    word_added built k = added_at (first_answer e Zero checked t params roots) (first_answer e One checked t params roots) (cells_back checked t params) k (answer_length e Zero built) (answer_length e One built) (both_add built)

-- ---- how many words come back

module _ (checked : Checked) (t : TableParts) (params : List ℕ) (accepted : IsCheckedFor checked t.shape.schema) (form : IsQuery checked.query) (known : AreParamsFor checked t.shape.schema params) where
  abbrev the_cell : List Row → List ℕ
  the_cell = cell (adds_in t.shape.schema.columns) checked.spec

  told_words : length (flat_map the_cell (each_told checked t params)) ≡ length (plan_of checked t.shape).first * cell_width checked.spec
  told_words =
      let asked = secrets_in checked t.shape params first_round in
      let trees : length asked ≡ length (plan_of checked t.shape).first = sym (length-map asked secret_tree) ∙ ap length (secrets_laid checked t.shape params accepted form known) in
      same_lengths the_cell (cell_width checked.spec) (length-cell (adds_in t.shape.schema.columns) checked.spec) (each_told checked t params)
      ∙ ap (λ n. n * cell_width checked.spec) (length-map asked (told_rows checked t) ∙ trees)

  words_by_kind : (k : PlanKind) → is_built k ≡ true → length (flat_map the_cell (rows_for k checked t params)) ≡ words_back k (length (plan_of checked t.shape).first) (cell_width checked.spec)
  words_by_kind kind.Sum built = ap length (append-nil (the_cell (matching_rows checked params t))) ∙ length-cell (adds_in t.shape.schema.columns) checked.spec (matching_rows checked params t)
  words_by_kind kind.Point built = told_words
  words_by_kind kind.Aligned built = told_words
  words_by_kind kind.Position built = absurd cc

  -- as many words as the plan tells
  pub words_planned : IsBuilt checked t.shape.schema.columns → length (cells_back checked t params) ≡ (plan_of checked t.shape).first_words
  unfolding rows_back
  words_planned built = words_by_kind (kind_of checked t.shape.schema.columns) built
