-- The sum of a column of a table, row by row.
use Rattle.std.proofs.Common.{◌≡◌, ℕ, ◌+◌, ◌<◌, ◌≤◌, ◌^◌, true, false, List, [], length, take, map, get_or, Some, refl, sym, ap, ◌∙◌, arith, slice_get}
use Rattle.std.specs.Prelude.{IfSome}
use Rattle.std.specs.List.{range_with_len}
use Rattle.std.proofs.lemmas.Bool.{ltb-true, lt-ltb, le-ltb}
use Rattle.std.proofs.lemmas.List.{take_all}
use Rattle.std.proofs.lemmas.List.FromFn.{length-map-range_with_len, take-map-range_with_len, sum_by-map-range_with_len_more}
use Rattle.std.proofs.lemmas.List.Sums.{sum_by-take-le}
use Rattle.std.proofs.lemmas.Option.{slice_get-get_or}
use Rattle.spl_values.specs.Kinds.{Fits}
use Rattle.spl_values.specs.Codes.{code_of}
use Rattle.spl_values.specs.Shapes.{ColumnParts}
use Rattle.spl_values.specs.Tables.{TableParts, IsTable, value_at}
use Rattle.spl_values.specs.declared.kinds.ColumnType.{ColumnType}
use Rattle.spl_values.specs.declared.kinds.ColumnType.TheVariants.{Uint, Text, Enum}
use Rattle.spl_values.specs.declared.values.Value.{Value}
use Rattle.spl_values.specs.declared.values.Value.TheVariants as value
use Rattle.cell_merge.specs.Rows.{Row, code}
use Rattle.cell_merge.specs.Cells.{addend}
use Rattle.cell_merge.specs.TableRows.{addend_of, adds_in, kind_in, kind_or_numbers, row_in, rows_of}
use Rattle.cell_merge.proofs.RowCells.{code_in_row}
use Rattle.sum_bounds.specs.Sums.{number_of, column_sum, is_bounded}

-- ---- what a row adds

fitting : (kind : ColumnType) (v : Value) → Fits kind v → addend_of kind (code_of kind v) ≡ number_of v
fitting (Uint b) (value.Number n) fits = refl
fitting (Uint b) (value.Text n) fits = absurd fits
fitting (Uint b) (value.Label n) fits = absurd fits
fitting (Text k) (value.Number n) fits = absurd fits
fitting (Text k) (value.Text n) fits = refl
fitting (Text k) (value.Label n) fits = absurd fits
fitting (Enum labels) (value.Number n) fits = absurd fits
fitting (Enum labels) (value.Text n) fits = absurd fits
fitting (Enum labels) (value.Label n) fits = refl

no_column : ColumnParts
no_column = record { name = []; kind = Uint 0 }

pub number-is : (t : TableParts) (row column : ℕ) (v : Value) → IsTable t → row < t.shape.rows → column < length t.shape.schema.columns → value_at t.rows row column ≡ Some v
    → IfSome (slice_get t.shape.schema.columns column) (λ c. Fits c.kind v) → number_of v ≡ addend (adds_in t.shape.schema.columns) column (row_in t row)
number-is t row column v valid h k is fits =
    let c = get_or t.shape.schema.columns column no_column in
    let here : slice_get t.shape.schema.columns column ≡ Some c = slice_get-get_or t.shape.schema.columns column no_column k in
    let fits_it : Fits c.kind v = rw here at fits in
    let same : code column (row_in t row) ≡ code_of c.kind v = code_in_row t row column c v valid h here is in
    let kind : kind_in t.shape.schema.columns column ≡ c.kind = ap kind_or_numbers here in
    sym (ap (λ k. addend_of k (code column (row_in t row))) kind ∙ ap (addend_of c.kind) same ∙ fitting c.kind v fits_it)

-- ---- the rows of a table

module _ (t : TableParts) (column : ℕ) where
  -- one row more
  pub sum-more : (row : ℕ) → row < length t.rows → column_sum t.shape.schema.columns column (take (row + 1) (rows_of t))
      ≡ column_sum t.shape.schema.columns column (take row (rows_of t)) + addend (adds_in t.shape.schema.columns) column (row_in t row)
  sum-more row h =
      let more : take (row + 1) (rows_of t) ≡ map (row_in t) (range_with_len 0 (row + 1)) = take-map-range_with_len (row_in t) 0 (length t.rows) (row + 1) (omega arith) in
      let some : take row (rows_of t) ≡ map (row_in t) (range_with_len 0 row) = take-map-range_with_len (row_in t) 0 (length t.rows) row (omega arith) in
      rw (more, some) (sum_by-map-range_with_len_more (addend (adds_in t.shape.schema.columns) column) (row_in t) 0 row row (omega arith))

  -- no part of the rows has a greater sum
  pub sum-part : (n : ℕ) → column_sum t.shape.schema.columns column (take n (rows_of t)) ≤ column_sum t.shape.schema.columns column (rows_of t)
  sum-part n = sum_by-take-le (addend (adds_in t.shape.schema.columns) column) (rows_of t) n

  pub length-rows : length (rows_of t) ≡ length t.rows
  length-rows = length-map-range_with_len (row_in t) 0 (length t.rows)

  -- all rows
  pub all_rows : (n : ℕ) → length t.rows ≤ n → take n (rows_of t) ≡ rows_of t
  all_rows n h = take_all n (rows_of t) (omega (arith, length-rows))

-- ---- the bound

pub within : (columns : List ColumnParts) (column : ℕ) (rows : List Row) → column_sum columns column rows < 2 ^ 64 → is_bounded columns column rows ≡ true
within columns column rows h = lt-ltb (column_sum columns column rows) (2 ^ 64) h

pub below : (columns : List ColumnParts) (column : ℕ) (rows : List Row) → is_bounded columns column rows ≡ true → column_sum columns column rows < 2 ^ 64
below columns column rows h = ltb-true (column_sum columns column rows) (2 ^ 64) h

pub over : (columns : List ColumnParts) (column : ℕ) (rows : List Row) → 2 ^ 64 ≤ column_sum columns column rows → is_bounded columns column rows ≡ false
over columns column rows h = le-ltb (column_sum columns column rows) (2 ^ 64) h
