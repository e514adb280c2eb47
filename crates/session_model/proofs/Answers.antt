-- The answers of both providers add to the cell of the rows that match.
use Rattle.std.proofs.Common.{◌≡◌, ℕ, ◌*◌, ◌%◌, ◌^◌, ◌<◌, true, cond, List, [], ◌∷◌, length, take, ap, ◌∙◌, arith}
use Rattle.std.specs.Prelude.{slice_index}
use Rattle.std.specs.List.{AllByRecursion, flat_map, list_all}
use Rattle.std.proofs.lemmas.List.{append-nil, take_all}
use Rattle.spl_words.specs.Words.{plus}
use Rattle.spl_words.specs.Folds.{fold_word, fold_words}
use Rattle.spl_words.specs.Secrets.{Secret, secrets_value}
use Rattle.spl_words.specs.declared.provider.Provider.{Provider}
use Rattle.spl_words.specs.declared.provider.Provider.TheVariants.{Zero, One}
use Rattle.spl_values.specs.Shapes.{ColumnParts}
use Rattle.spl_values.specs.Tables.{TableParts, IsTable, key_bits}
use Rattle.cell_merge.specs.Rows.{Row}
use Rattle.cell_merge.specs.Cells.{cell, cell_width}
use Rattle.cell_merge.specs.TableRows.{adds_in, row_in}
use Rattle.cell_merge.proofs.Lists.{each-map}
use Rattle.seed_expansion.specs.Expanders.{Meaning, IsPure}
use Rattle.query_grammar.specs.Canonical.{IsQuery}
use Rattle.query_reader.specs.declared.checked.Checked.{Checked}
use Rattle.query_reader.specs.Accepted.{IsCheckedFor}
use Rattle.query_reader.specs.Matching.{kept_rows, matching_rows, some_branch_holds}
use Rattle.query_reader.specs.Params.{AreParamsFor}
use Rattle.query_reader.proofs.Known.{checked_some, checked_bits}
use Rattle.count_sum.specs.SumPairs.{joined_key, row_cell, sum_pairs}
use Rattle.key_frames.specs.declared.keys.Key.{Key}
use Rattle.key_frames.specs.Trees.{key_list, key_shares}
use Rattle.key_frames.proofs.TreeLaws.{folds_add}
use Rattle.private_plan.specs.declared.plans.PlanKind.{PlanKind}
use Rattle.private_plan.specs.declared.plans.PlanKind.TheVariants as kind
use Rattle.private_plan.specs.Plans.{is_sum, kind_for, last_bits, plan_of}
use Rattle.private_plan.specs.Branches.{branch_spans}
use Rattle.private_plan.specs.Slots.{slot_secrets, slots_of}
use Rattle.private_plan.specs.Rounds.{first_round, folds_for, secrets_in}
use Rattle.private_plan.proofs.Accepted.{secrets_of_sum}
use Rattle.private_plan.proofs.Spans.{spans_fit}
use Rattle.private_plan.proofs.SlotSecrets.{secrets_tell, slots_fit}
use Rattle.session_model.specs.Answers.{answer_words, words_of_fold}
use Rattle.session_model.proofs.CellSums.{rows_add}
use Rattle.session_model.proofs.KeptRows.{each_kept, few_kept, kept_apart, kept_below}
use Rattle.session_model.proofs.RowSums.{over_rows, same_sums}
use Rattle.session_model.proofs.SumSecrets.{IsOf, slots_are, secrets, numbers}
use Rattle.session_model.proofs.TableRows.{row_codes, row_key_same}

-- ---- one fold

-- the plan of counts, sums and means
pub sum_kind : (checked : Checked) (table : TableParts) → list_all is_sum checked.spec.items ≡ true → (plan_of checked table.shape).kind ≡ kind.Sum
sum_kind checked table sums = ap (λ b. kind_for b checked.range (last_bits table.shape.schema.columns checked.columns)) sums

-- the words of a sum's answer are those of one fold of all keys
pub one_fold : (e : Meaning) (p : Provider) (round : ℕ) (keys : List Key) (checked : Checked) (table : TableParts) → (plan_of checked table.shape).kind ≡ kind.Sum → round ≡ 1 → length keys ≡ length (plan_of checked table.shape).first
    → answer_words e p round keys checked table ≡ fold_words (key_shares e p 0 keys) (sum_pairs checked table) (cell_width checked.spec)
unfolding answer_words
one_fold e p round keys checked table sum is same =
    let trees = (plan_of checked table.shape).first in
    let words = λ (ks : List Key). fold_words (key_shares e p 0 ks) (sum_pairs checked table) (cell_width checked.spec) in
    rw is (ap (λ (k : PlanKind). flat_map (words_of_fold e p 0 keys checked table) (folds_for k 1 trees)) sum
    ∙ (append-nil (words (take (length trees) keys)) ∙ ap words (take_all (length trees) keys (omega (arith, same)))))

-- ---- the answers

module _ (e : Meaning) (pure : IsPure e) (checked : Checked) (t : TableParts) (params : List ℕ) (roots : List (ℕ × ℕ)) (valid : IsTable t)
    (accepted : IsCheckedFor checked t.shape.schema) (form : IsQuery checked.query) (known : AreParamsFor checked t.shape.schema params) (sums : list_all is_sum checked.spec.items ≡ true) where
  abbrev columns : List ColumnParts
  columns = t.shape.schema.columns

  abbrev places : List ℕ
  places = checked.columns

  abbrev asked : List Secret
  asked = secrets_in checked t.shape params first_round

  asked_is : asked ≡ flat_map (slot_secrets checked.range checked.bits) (slots_of checked columns params)
  asked_is = secrets_of_sum checked t.shape params (sum_kind checked t sums)

  each_secret : AllByRecursion (IsOf checked.bits) asked
  each_secret =
      let some = checked_some checked t.shape.schema accepted form in
      let bits = checked_bits checked t.shape.schema accepted in
      let fit = slots_fit (branch_spans columns checked.branches places checked.range params) (2 ^ key_bits columns places) (spans_fit columns places checked.range some checked.branches params known.below) in
      rw asked_is (slots_are checked.bits checked.range (slots_of checked columns params) (rw bits fit))

  -- what the secrets say of a row
  row_told : (n : ℕ) → n < length t.rows → secrets_value asked (joined_key checked t (row_in t n)) ≡ cond (some_branch_holds checked.branches places checked.range params (row_in t n)) 1 0
  row_told n h =
      let some = checked_some checked t.shape.schema accepted form in
      let room = row_codes t valid places n h in
      rw (asked_is, row_key_same t valid places n h) (secrets_tell columns places checked.range some checked.bits checked.branches params (row_in t n) room known.below)

  pub answers_add : length roots ≡ length asked → (k : ℕ) → k < cell_width checked.spec
      → plus (fold_word (key_shares e Zero 0 (key_list e Zero 0 asked roots)) (sum_pairs checked t) k) (fold_word (key_shares e One 0 (key_list e One 0 asked roots)) (sum_pairs checked t) k)
      ≡ slice_index (cell (adds_in columns) checked.spec (matching_rows checked params t)) k % 2 ^ 64
  answers_add same k here =
      let w = λ (r : Row). slice_index (row_cell checked t r) k in
      let m = some_branch_holds checked.branches places checked.range params in
      let rows = kept_rows checked t in
      let pair : Row → ℕ × List ℕ = λ r. (joined_key checked t r, row_cell checked t r) in
      let below = kept_below checked t valid accepted in
      let small = each-map (λ (q : ℕ × List ℕ). AllByRecursion (λ (s : Secret). q.0 < 2 ^ s.depth) asked) pair rows (all_numbers rows below) in
      let told = each_kept checked t valid (λ r. secrets_value asked (joined_key checked t r) * w r ≡ cond (m r) 1 0 * w r) (λ n h. ap (λ v. v * w (row_in t n)) (row_told n h)) in
      folds_add e pure 0 asked roots (sum_pairs checked t) k same (secrets checked.bits asked each_secret) small
      ∙ ap (λ n. n % 2 ^ 64) (over_rows (λ p. secrets_value asked p.0 * slice_index p.1 k) pair rows ∙ same_sums (λ r. secrets_value asked (joined_key checked t r) * w r) (λ r. cond (m r) 1 0 * w r) rows told)
      ∙ rows_add (adds_in columns) checked.spec sums m rows k (kept_apart checked t) (few_kept checked t valid) here where
        all_numbers : (rs : List Row) → AllByRecursion (λ r. joined_key checked t r < 2 ^ checked.bits) rs → AllByRecursion (λ r. AllByRecursion (λ (s : Secret). joined_key checked t r < 2 ^ s.depth) asked) rs
        all_numbers [] h = tt
        all_numbers (r ∷ rs) h = (numbers checked.bits (joined_key checked t r) asked each_secret h.0, all_numbers rs h.1)
