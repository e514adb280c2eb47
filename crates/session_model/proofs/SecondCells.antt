-- The words of both answers in the second round add to the cells that come back, and these merge to the cell of the rows that match.
use Rattle.std.proofs.Common.{◌≡◌, ℕ, ◌-◌, ◌*◌, ◌^◌, ◌<◌, cond, List, length, refl, sym, ap, ap₂, ◌∙◌, arith}
use Rattle.std.specs.Prelude.{map, slice_index, sum_by}
use Rattle.std.specs.List.{AllByRecursion, flat_map}
use Rattle.std.proofs.lemmas.List.{length-map}
use Rattle.std.proofs.lemmas.List.Folds.{flat_map-map}
use Rattle.spl_words.specs.Words.{plus}
use Rattle.spl_words.specs.declared.secret.KeySpec.{KeySpec}
use Rattle.spl_words.specs.Secrets.{Secret, secret_tree}
use Rattle.spl_words.specs.declared.provider.Provider.{Provider}
use Rattle.spl_words.specs.declared.provider.Provider.TheVariants.{Zero, One}
use Rattle.spl_values.specs.Tables.{TableParts, IsTable}
use Rattle.seed_expansion.specs.Expanders.{Meaning, IsPure}
use Rattle.interval_keys.specs.Intervals.{slot_value}
use Rattle.cell_merge.specs.Rows.{Row}
use Rattle.cell_merge.specs.Cells.{cell, cell_width, merge_all}
use Rattle.cell_merge.specs.TableRows.{adds_in}
use Rattle.cell_merge.proofs.Lists.{each_weaker}
use Rattle.query_grammar.specs.Canonical.{IsQuery}
use Rattle.query_reader.specs.declared.checked.Checked.{Checked}
use Rattle.query_reader.specs.Accepted.{IsCheckedFor}
use Rattle.query_reader.specs.Matching.{kept_rows, matching_rows, some_branch_holds}
use Rattle.query_reader.specs.Params.{AreParamsFor}
use Rattle.query_reader.proofs.Known.{checked_branches}
use Rattle.count_sum.specs.Positions.{position}
use Rattle.key_frames.specs.Trees.{key_list}
use Rattle.private_plan.specs.declared.plans.PlanKind.TheVariants as kind
use Rattle.private_plan.specs.Plans.{for_each_slot, level_trees, plan_of, position_bits, second_trees}
use Rattle.private_plan.specs.Rounds.{Entries, by_position, each_tree, first_depth, first_tree, folds_for}
use Rattle.private_plan.specs.Slots.{IsPointOf, position_slots, slots_of}
use Rattle.private_plan.proofs.Accepted.{length-slots_of}
use Rattle.session_model.specs.Answers.{answer_words, words_of_fold}
use Rattle.session_model.specs.Cells.{ArePicked}
use Rattle.session_model.specs.Counts.{cells_back_second, counts_of, placed_rows, rows_back_second, second_answer, second_asked}
use Rattle.session_model.proofs.BackRows.{each_picked, each_small, picked_small, told_picked}
use Rattle.session_model.proofs.CellSums.{added_at, length-cell, same_lengths, wordwise}
use Rattle.session_model.proofs.CellWords.{AreWords}
use Rattle.session_model.proofs.CellsMerge.{said, told_merge}
use Rattle.session_model.proofs.PositionSlots.{are_counts, count_slots, kept_most, positions_held}
use Rattle.session_model.proofs.Positions.{placed}
use Rattle.session_model.proofs.RowSums.{each_in}
use Rattle.session_model.proofs.SecondSecrets.{covers_laid, levels_begin, positions_fit, second_points, second_tell, some_bits}
use Rattle.session_model.proofs.TreeWords.{by_tree, length-tree_words, points_tell, tree_words, trees_add}

-- ---- rows

pub second_picked : (checked : Checked) (t : TableParts) (params : List ℕ) → AllByRecursion (ArePicked t) (rows_back_second checked t params)
unfolding rows_back_second
second_picked checked t params = each_picked checked t (position checked t) (position_bits t.shape.rows) (second_asked checked t params)

pub second_small : (checked : Checked) (t : TableParts) (params : List ℕ) → IsTable t → IsCheckedFor checked t.shape.schema → AreWords (cells_back_second checked t params)
second_small checked t params valid accepted = each_small checked t valid accepted (rows_back_second checked t params) (second_picked checked t params)

-- ---- positions

module _ (checked : Checked) (t : TableParts) where
  abbrev q : ℕ
  q = position_bits t.shape.rows

  abbrev by_bits : KeySpec → Entries
  by_bits tree = by_position (q - tree.depth)

  -- the position of a kept row has no more bits than there are
  positions_low : IsTable t → AllByRecursion (λ r. position checked t r < 2 ^ q) (kept_rows checked t)
  positions_low valid =
      let most = kept_most checked t valid in
      let fit = positions_fit t.shape.rows valid.shape.few in
      each_in (λ r. position checked t r < 2 ^ q) (kept_rows checked t) (λ r is. let low = placed checked t r is in omega (arith, low, most, fit))

  abbrev the_cell : List Row → List ℕ
  the_cell = cell (adds_in t.shape.schema.columns) checked.spec

  abbrev told : Secret → List ℕ
  told s = the_cell (placed_rows checked t s)

  abbrev told_long : (s : Secret) → length (told s) ≡ cell_width checked.spec
  told_long s = length-cell (adds_in t.shape.schema.columns) checked.spec (placed_rows checked t s)

  cells_told : (params : List ℕ) → flat_map told (second_asked checked t params) ≡ cells_back_second checked t params
  unfolding rows_back_second
  cells_told params = sym (flat_map-map the_cell (placed_rows checked t) (second_asked checked t params))

  length-counts : (params : List ℕ) → length (position_slots (counts_of checked t params)) ≡ length (slots_of checked t.shape.schema.columns params)
  unfolding counts_of
  length-counts params = count_slots checked t (slots_of checked t.shape.schema.columns params)

-- ---- an accepted query

module _ (checked : Checked) (t : TableParts) (params : List ℕ) (accepted : IsCheckedFor checked t.shape.schema) (form : IsQuery checked.query) (known : AreParamsFor checked t.shape.schema params) where
  abbrev bits : ℕ
  bits = position_bits t.shape.rows

  abbrev asked : List Secret
  asked = second_asked checked t params

  abbrev trees : List KeySpec
  trees = for_each_slot checked.branches (level_trees bits bits)

  -- the trees of the secrets are as many slots' as the query has branches
  asked_laid : map secret_tree asked ≡ trees
  asked_laid =
      covers_laid bits bits 0 (position_slots (counts_of checked t params))
      ∙ ap (λ n. for_each_slot n (level_trees bits bits)) (length-counts checked t params ∙ length-slots_of checked t.shape.schema params accepted form known)

  planned_trees : (plan_of checked t.shape).kind ≡ kind.Position → (plan_of checked t.shape).second ≡ trees
  planned_trees position = ap (λ k. for_each_slot checked.branches (second_trees k t.shape.rows)) position

  pub second_laid : (plan_of checked t.shape).kind ≡ kind.Position → map secret_tree asked ≡ (plan_of checked t.shape).second
  second_laid position = asked_laid ∙ sym (planned_trees position)

  -- as many words as the plan tells
  pub second_planned : (plan_of checked t.shape).kind ≡ kind.Position → length (cells_back_second checked t params) ≡ (plan_of checked t.shape).second_words
  second_planned position =
      ap length (sym (cells_told checked t params))
      ∙ (same_lengths (told checked t) (cell_width checked.spec) (told_long checked t) asked
      ∙ ap (λ n. n * cell_width checked.spec) (sym (length-map asked secret_tree) ∙ ap length (second_laid position)))

  module _ (valid : IsTable t) where
    points : AllByRecursion (IsPointOf bits) asked
    points = second_points t.shape.rows valid.shape.few (counts_of checked t params) (are_counts checked t params valid accepted form known)

    -- the cells of the rows that the secrets tell are merged to that of the matching rows
    pub second_merge : merge_all checked.spec (map (the_cell checked t) (rows_back_second checked t params)) ≡ the_cell checked t (matching_rows checked params t)
    unfolding rows_back_second
    second_merge =
        let matches = some_branch_holds checked.branches checked.columns checked.range params in
        let counts = counts_of checked t params in
        let tell = second_tell t.shape.rows valid.shape.few counts (are_counts checked t params valid accepted form known) in
        told_merge checked t (position checked t) bits valid asked matches points
        (each_weaker (λ r. sum_by (λ s. slot_value s (position checked t r)) (position_slots counts) ≡ cond (matches r) 1 0) (λ r. sum_by (said checked t (position checked t) bits r) asked ≡ cond (matches r) 1 0)
        (λ r h. tell (position checked t r) ∙ h) (kept_rows checked t) (positions_held checked t params valid accepted form known))

    module _ (place : (plan_of checked t.shape).kind ≡ kind.Position) (roots : List (ℕ × ℕ)) (same : length roots ≡ length asked) where
      abbrev start : ℕ
      start = first_tree (plan_of checked t.shape) 2

      -- the answer has a cell for each tree
      cells_answer : (e : Meaning) (p : Provider) → second_answer e p checked t params roots ≡ tree_words checked t (by_bits checked t) e p start asked roots
      unfolding answer_words
      cells_answer e p =
          let plan = plan_of checked t.shape in
          let keys = key_list e p start asked roots in
          let begins : first_depth plan.second ≡ bits = ap first_depth (planned_trees place) ∙ levels_begin bits bits checked.branches (some_bits t.shape.rows valid.shape.few) (checked_branches checked t.shape.schema accepted).0 in
          ap (λ k. flat_map (words_of_fold e p start keys checked t) (folds_for k 2 plan.second)) place
          ∙ (ap (λ n. flat_map (words_of_fold e p start keys checked t) (each_tree (λ tree. by_position (n - tree.depth)) 0 plan.second)) begins
          ∙ (ap (λ ts. flat_map (words_of_fold e p start keys checked t) (each_tree (by_bits checked t) 0 ts)) (sym (second_laid place)) ∙ by_tree checked t (by_bits checked t) e p start keys 0 start asked roots (omega arith) same refl))

      pub second_length : (e : Meaning) (p : Provider) → length (second_answer e p checked t params roots) ≡ length (cells_back_second checked t params)
      second_length e p = ap length (cells_answer e p) ∙ (length-tree_words checked t (by_bits checked t) (told checked t) (told_long checked t) e p start asked roots same ∙ ap length (cells_told checked t params))

      module _ (e : Meaning) (pure : IsPure e) where
        second_adds : wordwise (second_answer e Zero checked t params roots) (second_answer e One checked t params roots) ≡ cells_back_second checked t params
        second_adds =
            let small = λ (s : Secret). picked_small checked t valid accepted (placed_rows checked t s) (told_picked checked t (position checked t) bits s) in
            ap₂ wordwise (cells_answer e Zero) (cells_answer e One)
            ∙ (trees_add checked t (by_bits checked t) (told checked t) (told_long checked t) e pure start asked roots same (points_tell checked t (position checked t) bits (positions_low checked t valid) small asked points) ∙ cells_told checked t params)

        pub second_added : (k : ℕ) → k < length (cells_back_second checked t params)
            → plus (slice_index (second_answer e Zero checked t params roots) k) (slice_index (second_answer e One checked t params roots) k) ≡ slice_index (cells_back_second checked t params) k
        second_added k = added_at (second_answer e Zero checked t params roots) (second_answer e One checked t params roots) (cells_back_second checked t params) k (second_length e Zero) (second_length e One) second_adds
