-- The slots of positions that the counts of a query's slots tell.
use Rattle.std.proofs.Common.{◌≡◌, ℕ, suc, ◌+◌, ◌-◌, ◌<◌, ◌≤◌, Bool, true, false, ◌&&◌, cond, List, [], ◌∷◌, length, Option, Some, None, inl, inr, refl, sym, ap, ap₂, ◌∙◌, arith, IfSome}
use Rattle.std.specs.Prelude.{nat_le, nat_lt, sum_by}
use Rattle.std.specs.List.{AllByRecursion, flat_map}
use Rattle.std.proofs.lemmas.Bool.{cases_Bool}
use Rattle.std.proofs.lemmas.Bool.Decides.{nat_tests}
use Rattle.std.proofs.lemmas.List.Elements.{All-head, All-tail}
use Rattle.std.proofs.lemmas.List.Sums.{sum_by-cons}
use Rattle.spl_values.specs.Tables.{TableParts, IsTable}
use Rattle.interval_keys.specs.Intervals.{Span, slot_value}
use Rattle.interval_keys.specs.Slots.{EachSpan, IsSpan}
use Rattle.interval_keys.proofs.SlotLaws.{valid_slots, value_slots}
use Rattle.cell_merge.specs.Rows.{Row}
use Rattle.cell_merge.specs.TableRows.{row_in, rows_of}
use Rattle.cell_merge.proofs.Lists.{length-filter-le}
use Rattle.clear_sql.proofs.MatchingCells.{length-rows_of}
use Rattle.query_grammar.specs.Canonical.{IsQuery}
use Rattle.query_reader.specs.declared.checked.Checked.{Checked}
use Rattle.query_reader.specs.Accepted.{IsCheckedFor}
use Rattle.query_reader.specs.Matching.{is_kept, kept_rows, some_branch_holds}
use Rattle.query_reader.specs.Params.{AreParamsFor}
use Rattle.query_reader.proofs.Known.{checked_some}
use Rattle.count_sum.specs.SumPairs.{joined_key}
use Rattle.count_sum.specs.Positions.{position}
use Rattle.private_plan.specs.Branches.{branch_spans, row_key}
use Rattle.private_plan.specs.Slots.{position_slot, position_slots, slots_of}
use Rattle.private_plan.proofs.Accepted.{valid_spans}
use Rattle.private_plan.proofs.Spans.{held_where}
use Rattle.session_model.specs.Counts.{AreCounts, counts_of, keys_below, keys_upto, slot_counts}
use Rattle.session_model.proofs.KeptRows.{each_kept}
use Rattle.session_model.proofs.Positions.{below_upto, between, few_keys}
use Rattle.session_model.proofs.RowSums.{IsIn, at_each, each_in}
use Rattle.session_model.proofs.TableRows.{row_codes, row_key_same}

-- ---- one slot

some_place : (below upto p : ℕ) → nat_lt below upto ≡ true → (nat_le below p && nat_le p (upto - 1)) ≡ (nat_le below p && nat_lt p upto)
some_place below upto p h = grind (arith, nat_tests)

no_place : (below upto p : ℕ) → nat_lt below upto ≡ false → (nat_le below p && nat_lt p upto) ≡ false
no_place below upto p h = grind (arith, nat_tests)

-- the slot of two counts holds the positions between them
pub place_value : (below upto p : ℕ) → slot_value (position_slot below upto) p ≡ cond (nat_le below p && nat_lt p upto) 1 0
place_value below upto p = elim (cases_Bool (nat_lt below upto)) [
  | inl open_slot ↦ rw open_slot (ap (λ b. cond b 1 0) (some_place below upto p open_slot))
  | inr shut ↦ rw shut (ap (λ b. cond b 1 0) (sym (no_place below upto p shut)))
]

-- ---- all slots

module _ (checked : Checked) (t : TableParts) where
  abbrev key : Row → ℕ
  key = joined_key checked t

  -- a slot holds a kept row's joined key where the slot of its counts holds the row's position
  slots_same : (r : Row) → IsIn r (kept_rows checked t) → (l : List (Option Span))
      → sum_by (λ s. slot_value s (position checked t r)) (position_slots (flat_map (slot_counts checked t) l)) ≡ sum_by (λ s. slot_value s (key r)) l
  unfolding position_slots
  slots_same r is [] = refl
  slots_same r is (None ∷ l) =
      let F = λ (s : Option Span). slot_value s (position checked t r) in
      sum_by-cons F None (position_slots (flat_map (slot_counts checked t) l)) ∙ (ap (λ n. 0 + n) (slots_same r is l) ∙ sym (sum_by-cons (λ s. slot_value s (key r)) None l))
  slots_same r is (Some s ∷ l) =
      let F = λ (u : Option Span). slot_value u (position checked t r) in
      let below = keys_below checked t s.lo in
      let upto = keys_upto checked t s.hi in
      let here : F (position_slot below upto) ≡ slot_value (Some s) (key r) = place_value below upto (position checked t r) ∙ ap (λ b. cond b 1 0) (sym (between checked t s.lo s.hi r is)) in
      sum_by-cons F (position_slot below upto) (position_slots (flat_map (slot_counts checked t) l))
      ∙ (ap₂ (λ m n. m + n) here (slots_same r is l) ∙ sym (sum_by-cons (λ u. slot_value u (key r)) (Some s) l))

  pub count_slots : (l : List (Option Span)) → length (position_slots (flat_map (slot_counts checked t) l)) ≡ length l
  unfolding position_slots
  count_slots [] = refl
  count_slots (None ∷ l) = ap suc (count_slots l)
  count_slots (Some s ∷ l) = ap suc (count_slots l)

  good_counts : (rows : ℕ) → length (kept_rows checked t) ≤ rows → (l : List (Option Span)) → EachSpan IsSpan l → AreCounts rows (flat_map (slot_counts checked t) l)
  good_counts rows few [] valid = tt
  good_counts rows few (None ∷ l) valid = (omega arith, omega arith, good_counts rows few l (All-tail (λ b. IfSome b IsSpan) None l valid))
  good_counts rows few (Some s ∷ l) valid =
      let most = few_keys checked t (λ x. nat_le x s.hi) in
      (below_upto checked t s.lo s.hi (All-head (λ b. IfSome b IsSpan) (Some s) l valid), omega (arith, most, few), good_counts rows few l (All-tail (λ b. IfSome b IsSpan) (Some s) l valid))

  pub kept_most : IsTable t → length (kept_rows checked t) ≤ t.shape.rows
  kept_most valid =
      let short = length-filter-le (is_kept checked.public) (rows_of t) in
      let all = length-rows_of t in
      omega (arith, short, all, valid.count)

-- ---- an accepted query

module _ (checked : Checked) (t : TableParts) (params : List ℕ) (valid : IsTable t) (accepted : IsCheckedFor checked t.shape.schema) (form : IsQuery checked.query) (known : AreParamsFor checked t.shape.schema params) where
  abbrev spans : List (Option Span)
  spans = branch_spans t.shape.schema.columns checked.branches checked.columns checked.range params

  abbrev matches : Row → Bool
  matches r = some_branch_holds checked.branches checked.columns checked.range params r

  pub are_counts : AreCounts t.shape.rows (counts_of checked t params)
  unfolding counts_of
  are_counts = good_counts checked t t.shape.rows (kept_most checked t valid) (slots_of checked t.shape.schema.columns params) (valid_slots spans (valid_spans checked t.shape.schema params accepted form known))

  -- a row's joined key is in a slot where some branch holds of it
  key_held : (n : ℕ) → n < length t.rows → sum_by (λ s. slot_value s (joined_key checked t (row_in t n))) (slots_of checked t.shape.schema.columns params) ≡ cond (matches (row_in t n)) 1 0
  key_held n h =
      let columns = t.shape.schema.columns in
      let places = checked.columns in
      let r = row_in t n in
      ap (λ (x : ℕ). sum_by (λ s. slot_value s x) (slots_of checked columns params)) (row_key_same t valid places n h)
      ∙ (value_slots spans (row_key columns places r) (valid_spans checked t.shape.schema params accepted form known)
      ∙ ap (λ b. cond b 1 0) (sym (held_where columns places checked.range (checked_some checked t.shape.schema accepted form) checked.branches params r (row_codes t valid places n h) known.below)))

  pub positions_held : AllByRecursion (λ r. sum_by (λ s. slot_value s (position checked t r)) (position_slots (counts_of checked t params)) ≡ cond (matches r) 1 0) (kept_rows checked t)
  unfolding counts_of
  positions_held =
      let slots = slots_of checked t.shape.schema.columns params in
      let kept = kept_rows checked t in
      let Held : Row → Type 0 = λ r. sum_by (λ s. slot_value s (joined_key checked t r)) slots ≡ cond (matches r) 1 0 in
      let held = each_kept checked t valid Held key_held in
      each_in _ kept (λ r is. slots_same checked t r is slots ∙ at_each Held kept held r is)
