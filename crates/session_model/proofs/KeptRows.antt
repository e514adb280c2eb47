-- The kept rows of a valid table: their joined keys, their numbers and how many they are.
use Rattle.std.proofs.Common.{ℕ, ◌^◌, ◌<◌, length, arith}
use Rattle.std.specs.List.{AllByRecursion}
use Rattle.spl_values.specs.Tables.{TableParts, IsTable}
use Rattle.cell_merge.specs.Rows.{Row, Apart}
use Rattle.cell_merge.specs.TableRows.{row_in, rows_of}
use Rattle.cell_merge.proofs.Labels.{Apart-filter}
use Rattle.cell_merge.proofs.Lists.{each-filter, length-filter-le}
use Rattle.cell_merge.proofs.RowCells.{rows_apart}
use Rattle.query_reader.specs.declared.checked.Checked.{Checked}
use Rattle.query_reader.specs.Accepted.{IsCheckedFor}
use Rattle.query_reader.specs.Matching.{is_kept, kept_rows}
use Rattle.query_reader.proofs.Known.{checked_bits}
use Rattle.clear_sql.proofs.MatchingCells.{length-rows_of}
use Rattle.count_sum.specs.SumPairs.{joined_key}
use Rattle.private_plan.proofs.Spans.{row_key_below}
use Rattle.session_model.proofs.TableRows.{each_row, row_codes, row_key_same}

pub kept_apart : (checked : Checked) (t : TableParts) → Apart (kept_rows checked t)
kept_apart checked t = Apart-filter (is_kept checked.public) (rows_of t) (rows_apart t)

module _ (checked : Checked) (t : TableParts) (valid : IsTable t) where
  pub few_kept : length (kept_rows checked t) < 2 ^ 64
  few_kept =
      let fewer = length-filter-le (is_kept checked.public) (rows_of t) in
      let count = length-rows_of t in
      omega (arith, fewer, count, valid.count, valid.shape.few)

  -- what holds of each row of the table holds of each that is kept
  pub each_kept : (P : Row → Type 0) → ((n : ℕ) → n < length t.rows → P (row_in t n)) → AllByRecursion P (kept_rows checked t)
  each_kept P each = each-filter P (is_kept checked.public) (rows_of t) (each_row t valid P each)

  module _ (accepted : IsCheckedFor checked t.shape.schema) where
    -- a row's joined key has the key's bits
    row_below : (n : ℕ) → n < length t.rows → joined_key checked t (row_in t n) < 2 ^ checked.bits
    row_below n h =
        let key = row_key_same t valid checked.columns n h in
        let bits = checked_bits checked t.shape.schema accepted in
        rw (key, bits) (row_key_below t.shape.schema.columns checked.columns (row_in t n) (row_codes t valid checked.columns n h))

    pub kept_below : AllByRecursion (λ r. joined_key checked t r < 2 ^ checked.bits) (kept_rows checked t)
    kept_below = each_kept (λ r. joined_key checked t r < 2 ^ checked.bits) row_below
