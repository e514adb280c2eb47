-- The cells that the folds of a round begin with: the rows, the rows with the word 1, and the cells by joined key or by position.
use Rattle.std.proofs.Common.{◌≡◌, ◌<◌, ◌≤◌, ◌+◌, ◌*◌, ◌^◌, ℕ, zero, suc, Bool, true, false, cond, List, [], ◌∷◌, ◌++◌, length, map, replicate, Some, Result, Ok, Err, refl, sym, ap, ap₂, subst, ◌∙◌, arith, nat_le}
use Rattle.std.specs.Prelude.{All, IfOk, find, unwrap_or}
use Rattle.std.specs.List.{AllByRecursion, filter, flat_map, range_with_len}
use Rattle.std.proofs.lemmas.Bool.Decides.{nat_tests}
use Rattle.std.proofs.lemmas.List.{length-map, length-replicate, map-append}
use Rattle.std.proofs.lemmas.List.Elements.{All-from_recursion}
use Rattle.std.proofs.Math.Nat.{mul-one}
use Rattle.spl_words.specs.Folds.{AreEntries}
use Rattle.spl_values.specs.Tables.{IsTable, TableParts}
use Rattle.cell_merge.specs.Rows.{Row}
use Rattle.cell_merge.specs.Cells.{cell_width}
use Rattle.cell_merge.specs.TableRows.{row_in, rows_of}
use Rattle.cell_merge.specs.declared.cells.CellTable.{CellTable}
use Rattle.cell_merge.proofs.Lists.{each-map, length-filter-le}
use Rattle.clear_sql.proofs.MatchingCells.{length-rows_of}
use Rattle.query_reader.specs.declared.checked.Checked.{Checked}
use Rattle.query_reader.specs.Accepted.{IsCheckedFor}
use Rattle.query_reader.specs.Matching.{is_kept, kept_rows}
use Rattle.count_sum.specs.SumPairs.{joined_key, sum_pairs}
use Rattle.count_sum.specs.KeyCells.{key_pairs}
use Rattle.count_sum.specs.Positions.{position, position_pairs}
use Rattle.count_sum.proofs.KeptRows.{filter-kept, filter-left_out, rows_to, rows_to-more}
use Rattle.private_plan.specs.Plans.{position_bits}
use Rattle.private_plan.specs.Rounds.{rows, ones, by_key, by_position}
use Rattle.session_model.specs.Answers.{entries_of}
use Rattle.session_model.proofs.KeptRows.{kept_below}
use Rattle.provider_core.specs.Cells.{AreCells}
use Rattle.provider_core.proofs.LevelCells.{zero_entries}
use Rattle.provider_core.proofs.RowSums.{entries_are}

-- ---- the keys of the kept rows, row by row

module _ (checked : Checked) (t : TableParts) where
  pub key_kept : (n : ℕ) (keys : List ℕ) (key : ℕ) → is_kept checked.public (row_in t n) ≡ true → key ≡ joined_key checked t (row_in t n) → keys ≡ map (joined_key checked t) (filter (is_kept checked.public) (rows_to t n))
      → keys ++ key ∷ [] ≡ map (joined_key checked t) (filter (is_kept checked.public) (rows_to t (n + 1)))
  key_kept n keys key kept is before =
      let p = is_kept checked.public in
      let key_of = joined_key checked t in
      ap₂ (λ l k. l ++ k ∷ []) before is ∙ sym (map-append key_of (filter p (rows_to t n)) (row_in t n ∷ []))
      ∙ ap (map key_of) (sym (filter-kept p (rows_to t n) (row_in t n) kept)) ∙ ap (λ l. map key_of (filter p l)) (sym (rows_to-more t n))

  pub key_left_out : (n : ℕ) → is_kept checked.public (row_in t n) ≡ false → map (joined_key checked t) (filter (is_kept checked.public) (rows_to t n)) ≡ map (joined_key checked t) (filter (is_kept checked.public) (rows_to t (n + 1)))
  key_left_out n out =
      let p = is_kept checked.public in
      ap (map (joined_key checked t)) (sym (filter-left_out p (rows_to t n) (row_in t n) out)) ∙ ap (λ l. map (joined_key checked t) (filter p l)) (sym (rows_to-more t n))

  -- ---- the rows with the word 1

  -- the keys with a word for each are the entries of the rows
  ones_entries : (rs : List Row) → AreEntries 1 (map (λ r. (joined_key checked t r, 1 ∷ [])) rs) (map (joined_key checked t) rs) (replicate (length rs) 1)
  ones_entries [] = record { each_number = refl; each_cell = refl; wide = tt }
  ones_entries (r ∷ rs) =
      let rest = ones_entries rs in
      record { each_number = ap (λ l. joined_key checked t r ∷ l) rest.each_number; each_cell = ap (λ l. 1 ∷ l) rest.each_cell; wide = (refl, rest.wide) }

  pub ones_are : IsTable t → IsCheckedFor checked t.shape.schema → (keys words : List ℕ) (n : ℕ) → keys ≡ map (joined_key checked t) (kept_rows checked t) → length keys ≡ n → words ≡ replicate n 1
      → AreCells checked t ones checked.bits (record { keys = keys; cells = words; width = 1 })
  ones_are table accepted keys words n ks long ws =
      let P : ℕ → Type 0 = λ x. x < 2 ^ checked.bits in
      let kept = kept_rows checked t in
      let count : n ≡ length kept = sym long ∙ ap (λ l. length l) ks ∙ length-map kept (joined_key checked t) in
      let all : words ≡ replicate (length kept) 1 = ws ∙ ap (λ m. replicate m 1) count in
      record {
        each = subst (λ l. AreEntries 1 (entries_of checked t ones) l words) (sym ks) (subst (λ l. AreEntries 1 (entries_of checked t ones) (map (joined_key checked t) kept) l) (sym all) (ones_entries kept));
        width = refl;
        whole = ap (λ l. length l) ws ∙ length-replicate n 1 ∙ sym long ∙ sym (mul-one (length keys));
        below = All-from_recursion P keys (subst (AllByRecursion P) (sym ks) (each-map P (joined_key checked t) kept (kept_below checked t table accepted)));
      }

-- ---- the cells by position

-- the bits of positions tell all n apart
position_enough : (n : ℕ) (qs : List ℕ) → n ≤ 2 ^ 18 → n ≤ 2 ^ unwrap_or (find (λ q. nat_le n (2 ^ q)) qs) 18
position_enough n [] few = few
position_enough n (q ∷ qs) few = by_test (nat_le n (2 ^ q)) refl (position_enough n qs few) where
  by_test : (b : Bool) → nat_le n (2 ^ q) ≡ b → n ≤ 2 ^ unwrap_or (find (λ q. nat_le n (2 ^ q)) qs) 18 → n ≤ 2 ^ unwrap_or (cond b (Some q) (find (λ q. nat_le n (2 ^ q)) qs)) 18
  by_test true e later = grind (arith, nat_tests)
  by_test false e later = later

numbers_below : (bound a n : ℕ) → a + n ≤ bound → AllByRecursion (λ x. x < bound) (range_with_len a n)
numbers_below bound a zero h = tt
numbers_below bound a (suc n) h = (omega (arith, h), numbers_below bound (a + 1) n (omega (arith, h)))

-- ---- the cells of a query

module _ (checked : Checked) (t : TableParts) where
  pub row_cells_are : {E : Type 0} (r : Result CellTable E) → IfOk r (λ c. c.keys ≡ map (λ (q : ℕ × List ℕ). q.0) (sum_pairs checked t)) → IfOk r (λ c. c.cells ≡ flat_map (λ (q : ℕ × List ℕ). q.1) (sum_pairs checked t))
      → IfOk r (λ c. c.width ≡ cell_width checked.spec) → IfOk r (λ c. All (λ x. x < 2 ^ checked.bits) c.keys) → IfOk r (λ c. length c.cells ≡ length c.keys * c.width) → IfOk r (AreCells checked t rows checked.bits)
  row_cells_are (Ok c) keys cells width bits whole = record { each = entries_are checked t c.keys c.cells keys cells; width = width; whole = whole; below = bits }
  row_cells_are (Err e) keys cells width bits whole = tt

  pub key_cells_are : {E : Type 0} (r : Result CellTable E) → IfOk r (λ c. c.keys ≡ map (λ (q : ℕ × List ℕ). q.0) (key_pairs checked t)) → IfOk r (λ c. c.cells ≡ flat_map (λ (q : ℕ × List ℕ). q.1) (key_pairs checked t))
      → IfOk r (λ c. c.width ≡ cell_width checked.spec) → IfOk r (λ c. All (λ x. x < 2 ^ checked.bits) c.keys) → IfOk r (λ c. length c.cells ≡ length c.keys * c.width) → IfOk r (AreCells checked t (by_key 0) checked.bits)
  key_cells_are (Ok c) keys cells width bits whole = record { each = zero_entries checked t (joined_key checked t) c.keys c.cells keys cells; width = width; whole = whole; below = bits }
  key_cells_are (Err e) keys cells width bits whole = tt

  -- each position has the bits of positions
  positions_below : IsTable t → (keys : List ℕ) → keys ≡ range_with_len 0 (length (kept_rows checked t)) → All (λ x. x < 2 ^ position_bits t.shape.rows) keys
  positions_below table keys is =
      let P : ℕ → Type 0 = λ x. x < 2 ^ position_bits t.shape.rows in
      let fewer = length-filter-le (is_kept checked.public) (rows_of t) in
      let count = length-rows_of t in
      let enough : t.shape.rows ≤ 2 ^ position_bits t.shape.rows = position_enough t.shape.rows (range_with_len 1 18) (let few = table.shape.few in omega (arith, few)) in
      All-from_recursion P keys (subst (AllByRecursion P) (sym is) (numbers_below (2 ^ position_bits t.shape.rows) 0 (length (kept_rows checked t)) (omega (arith, fewer, count, table.count, enough))))

  pub position_cells_are : {E : Type 0} (r : Result CellTable E) → IsTable t → IfOk r (λ c. c.keys ≡ map (λ (q : ℕ × List ℕ). q.0) (position_pairs checked t)) → IfOk r (λ c. c.cells ≡ flat_map (λ (q : ℕ × List ℕ). q.1) (position_pairs checked t))
      → IfOk r (λ c. c.width ≡ cell_width checked.spec) → IfOk r (λ c. c.keys ≡ range_with_len 0 (length (kept_rows checked t))) → IfOk r (λ c. length c.cells ≡ length c.keys * c.width) → IfOk r (AreCells checked t (by_position 0) (position_bits t.shape.rows))
  position_cells_are (Ok c) table keys cells width numbered whole = record { each = zero_entries checked t (position checked t) c.keys c.cells keys cells; width = width; whole = whole; below = positions_below table c.keys numbered }
  position_cells_are (Err e) table keys cells width numbered whole = tt
