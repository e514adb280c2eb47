-- Sums of a column of numbers.
use Rattle.std.specs.Prelude.{◌≡◌, ℕ, ◌+◌, ◌^◌, ◌<◌, Bool, true, false, nat_lt, List, length, take, sum_by}
use Rattle.spl_values.specs.Shapes.{ColumnParts}
use Rattle.spl_values.specs.declared.values.Value.{Value}
use Rattle.spl_values.specs.declared.values.Value.TheVariants as value
use Rattle.cell_merge.specs.Rows.{Row}
use Rattle.cell_merge.specs.Cells.{addend}
use Rattle.cell_merge.specs.TableRows.{adds_in}

-- the number that a value is; no other value is in a column of numbers
abbrev pub number_of : Value → ℕ
number_of (value.Number n) = n
number_of (value.Text n) = 0
number_of (value.Label n) = 0

-- the exact sum of a column over rows
abbrev pub column_sum : List ColumnParts → ℕ → List Row → ℕ
column_sum columns column rows = sum_by (addend (adds_in columns) column) rows

-- that sum is within the bound of a column's sum: it is below 2 ^ 64
abbrev pub is_bounded : List ColumnParts → ℕ → List Row → Bool
is_bounded columns column rows = nat_lt (column_sum columns column rows) (2 ^ 64)

-- the first row at which the sum of the rows up to it is over its bound, and that sum
pub record IsFirstOver (columns : List ColumnParts) (column : ℕ) (rows : List Row) (row sum : ℕ) : Type 0 where
  pub within : row < length rows
  pub total : sum ≡ column_sum columns column (take (row + 1) rows)
  pub over : is_bounded columns column (take (row + 1) rows) ≡ false
  pub first : (earlier : ℕ) → earlier < row → is_bounded columns column (take (earlier + 1) rows) ≡ true
