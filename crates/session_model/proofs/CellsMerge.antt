-- The cells that come back merge to the cell of the rows that match.
use Rattle.std.proofs.Common.{◌≡◌, ℕ, zero, suc, ◌+◌, ◌-◌, ◌/◌, ◌^◌, ◌<◌, ◌≤◌, Bool, true, cond, eqb, List, [], ◌∷◌, length, inl, inr, refl, sym, ap, ap₂, ◌∙◌, arith}
use Rattle.std.specs.Prelude.{map, sum_by}
use Rattle.std.specs.List.{AllByRecursion, filter}
use Rattle.std.proofs.lemmas.Simd.{map-map}
use Rattle.std.proofs.lemmas.List.Sums.{sum_by-cons}
use Rattle.spl_words.specs.Secrets.{Secret, secret_value}
use Rattle.spl_values.specs.Tables.{TableParts, IsTable}
use Rattle.cell_merge.specs.Rows.{Row, Apart}
use Rattle.cell_merge.specs.Cells.{Addends, cell, merge, merge_all}
use Rattle.cell_merge.specs.TableRows.{adds_in, row_in}
use Rattle.cell_merge.specs.declared.spec.CellSpec.{CellSpec}
use Rattle.cell_merge.proofs.All.{cell_empty}
use Rattle.cell_merge.proofs.Labels.{Apart-filter, cell_merge}
use Rattle.cell_merge.proofs.Lists.{each_weaker, length-filter-le}
use Rattle.aligned_ranges.proofs.TestedCells.{passed_once, passed_where, passes_one, tested_merge, times_passed}
use Rattle.query_grammar.specs.Canonical.{IsQuery}
use Rattle.query_reader.specs.declared.checked.Checked.{Checked}
use Rattle.query_reader.specs.Accepted.{IsCheckedFor}
use Rattle.query_reader.specs.Matching.{kept_rows, matching_rows, some_branch_holds}
use Rattle.query_reader.specs.Params.{AreParamsFor}
use Rattle.count_sum.specs.SumPairs.{joined_key}
use Rattle.private_plan.specs.Plans.{IsBuilt, brings_cells, kind_of}
use Rattle.private_plan.specs.Rounds.{first_round, secrets_in}
use Rattle.private_plan.specs.Slots.{IsPointOf}
use Rattle.private_plan.proofs.Telling.{are_points, tell_rows}
use Rattle.session_model.specs.Cells.{each_told, rows_back, told_by}
use Rattle.session_model.proofs.CellSums.{all_right}
use Rattle.session_model.proofs.BackRows.{sum_rows, told_back}
use Rattle.session_model.proofs.KeptRows.{each_kept, few_kept, kept_apart}
use Rattle.session_model.proofs.Plans.{built_kinds}
use Rattle.session_model.proofs.TableRows.{row_codes, row_key_same}
use Rattle.session_model.proofs.Told.{at_most_one}

-- tests that agree at each row of a list keep the same of it
filter_where : (p q : Row → Bool) (rows : List Row) → AllByRecursion (λ r. p r ≡ q r) rows → filter p rows ≡ filter q rows
filter_where p q [] each = refl
filter_where p q (r ∷ rows) each = ap₂ (λ (b : Bool) l. cond b (r ∷ l) l) each.0 (filter_where p q rows each.1)

-- the merge of one cell into the empty one
one_cell : (adds : Addends) (spec : CellSpec) (rows : List Row) → Apart rows → length rows < 2 ^ 64 → merge_all spec (cell adds spec rows ∷ []) ≡ cell adds spec rows
one_cell adds spec rows apart few = ap (λ c. merge spec c (cell adds spec rows)) (sym (cell_empty adds spec)) ∙ cell_merge adds spec [] rows rows (all_right rows) apart few

-- ---- how many secrets tell a row

module _ (checked : Checked) (t : TableParts) (number : Row → ℕ) (bits : ℕ) where
  -- what a secret says of a row
  abbrev pub said : Row → Secret → ℕ
  said r s = secret_value s (number r / 2 ^ (bits - s.depth))

  abbrev tells : Secret → Row → Bool
  tells s r = eqb (said r s) 1

  as_bit : (v : ℕ) → v ≤ 1 → cond (eqb v 1) 1 0 ≡ v
  as_bit zero h = refl
  as_bit (suc zero) h = refl
  as_bit (suc (suc v)) h = absurd (omega arith)

  -- as many as their words add to
  times_told : (r : Row) (ss : List Secret) → AllByRecursion (IsPointOf bits) ss → times_passed tells ss r ≡ sum_by (said r) ss
  times_told r [] each = refl
  times_told r (s ∷ ss) each =
      sum_by-cons (λ u. cond (tells u r) 1 0) s ss
      ∙ (ap₂ (λ m n. m + n) (as_bit (said r s) (at_most_one s (number r / 2 ^ (bits - s.depth)) each.0.is_point each.0.once)) (times_told r ss each.1) ∙ sym (sum_by-cons (said r) s ss))

  -- where the words of points add to 1 at the rows that pass a test, and to 0 at others, the cells that they tell merge to the cell of the rows that pass
  pub told_merge : IsTable t → (asked : List Secret) (passes : Row → Bool) → AllByRecursion (IsPointOf bits) asked → AllByRecursion (λ r. sum_by (said r) asked ≡ cond (passes r) 1 0) (kept_rows checked t)
      → merge_all checked.spec (map (cell (adds_in t.shape.schema.columns) checked.spec) (map (told_by checked t number bits) asked)) ≡ cell (adds_in t.shape.schema.columns) checked.spec (filter passes (kept_rows checked t))
  told_merge valid asked passes points each =
      let kept = kept_rows checked t in
      let the_cell : List Row → List ℕ = cell (adds_in t.shape.schema.columns) checked.spec in
      let Said : Row → Type 0 = λ r. sum_by (said r) asked ≡ cond (passes r) 1 0 in
      let once = each_weaker Said (λ r. times_passed tells asked r ≤ 1) (λ r h. passed_once tells asked r (passes r) (times_told r asked points ∙ h)) kept each in
      let where_passing = each_weaker Said (λ r. passes_one tells asked r ≡ passes r) (λ r h. passed_where tells asked r (passes r) (times_told r asked points ∙ h)) kept each in
      ap (λ l. merge_all checked.spec l) (map-map the_cell (told_by checked t number bits) asked)
      ∙ (tested_merge (adds_in t.shape.schema.columns) checked.spec tells kept (kept_apart checked t) (few_kept checked t valid) asked once
      ∙ ap the_cell (filter_where (passes_one tells asked) passes kept where_passing))

module _ (checked : Checked) (t : TableParts) (params : List ℕ) (valid : IsTable t) (accepted : IsCheckedFor checked t.shape.schema) (form : IsQuery checked.query) (known : AreParamsFor checked t.shape.schema params) where
  abbrev asked : List Secret
  asked = secrets_in checked t.shape params first_round

  abbrev the_cell : List Row → List ℕ
  the_cell = cell (adds_in t.shape.schema.columns) checked.spec

  abbrev matches : Row → Bool
  matches r = some_branch_holds checked.branches checked.columns checked.range params r

  abbrev key_said : Row → Secret → ℕ
  key_said = said checked t (joined_key checked t) checked.bits

  -- a row that matches is told by one secret, and another by none
  row_told : brings_cells (kind_of checked t.shape.schema.columns) ≡ true → (n : ℕ) → n < length t.rows → sum_by (key_said (row_in t n)) asked ≡ cond (matches (row_in t n)) 1 0
  row_told brings n h =
      let key = row_key_same t valid checked.columns n h in
      ap (λ (x : ℕ). sum_by (λ (s : Secret). secret_value s (x / 2 ^ (checked.bits - s.depth))) asked) key
      ∙ tell_rows checked t.shape params valid.shape.schema accepted form known brings (row_in t n) (row_codes t valid checked.columns n h)

  trees_merge : brings_cells (kind_of checked t.shape.schema.columns) ≡ true → merge_all checked.spec (map the_cell (each_told checked t params)) ≡ the_cell (matching_rows checked params t)
  trees_merge brings =
      let points = are_points checked t.shape params valid.shape.schema accepted form known brings in
      told_merge checked t (joined_key checked t) checked.bits valid asked matches points (each_kept checked t valid (λ r. sum_by (key_said r) asked ≡ cond (matches r) 1 0) (row_told brings))

  sum_merge : merge_all checked.spec (the_cell (matching_rows checked params t) ∷ []) ≡ the_cell (matching_rows checked params t)
  sum_merge =
      let fewer = length-filter-le matches (kept_rows checked t) in
      let few = few_kept checked t valid in
      one_cell (adds_in t.shape.schema.columns) checked.spec (matching_rows checked params t) (Apart-filter matches (kept_rows checked t) (kept_apart checked t)) (omega (arith, fewer, few))

  pub back_merge : IsBuilt checked t.shape.schema.columns → merge_all checked.spec (map the_cell (rows_back checked t params)) ≡ the_cell (matching_rows checked params t)
  back_merge built =
      elim (built_kinds (kind_of checked t.shape.schema.columns) built) [
        | inl sum ↦ ap (λ l. merge_all checked.spec (map the_cell l)) (sum_rows checked t params sum) ∙ sum_merge
        | inr brings ↦ ap (λ l. merge_all checked.spec (map the_cell l)) (told_back checked t params brings) ∙ trees_merge brings
      ]
