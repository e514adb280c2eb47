-- The bounds of the sums that some items ask for, over all rows of a table.
use Rattle.std.specs.Prelude.{ℕ, ◌+◌, not, find, List, [], ◌∷◌, length, take, Option, None, Some, option_map, Result, Ok, Err}
use Rattle.std.specs.List.{range_with_len}
use Rattle.spl_words.specs.Results.{◌>>=◌}
use Rattle.spl_values.specs.Shapes.{ColumnParts}
use Rattle.spl_values.specs.Tables.{TableParts}
use Rattle.cell_merge.specs.declared.spec.CellItem.{CellItem}
use Rattle.cell_merge.specs.declared.spec.CellItem.TheVariants.{Sum, Avg}
use Rattle.cell_merge.specs.Rows.{Row}
use Rattle.cell_merge.specs.TableRows.{rows_of}
use Rattle.sum_bounds.specs.declared.AtRow.{AtRow}
use Rattle.sum_bounds.specs.declared.SumFault.{SumFault}
use Rattle.sum_bounds.specs.Sums.{column_sum, is_bounded}

-- a row, and the sum of the rows up to it and with it
abbrev pub at_row : List ColumnParts → ℕ → List Row → ℕ → AtRow
at_row columns column rows row = record { row = row; sum = column_sum columns column (take (row + 1) rows) }

-- the first row at which that sum is over its bound
unfoldable pub first_over : List ColumnParts → ℕ → List Row → Option AtRow
first_over columns column rows =
    option_map (at_row columns column rows) (find (λ row. not (is_bounded columns column (take (row + 1) rows))) (range_with_len 0 (length rows)))

-- a column's sum is within its bound, unless some row is the first over it
abbrev pub unless_over : ℕ → Option AtRow → Result (Unit {0}) SumFault
unless_over column None = Ok tt
unless_over column (Some at) = Err (record { column = column; at = at })

-- the sum of an item's column is within its bound; an item other than SUM and AVG has none
abbrev pub item_bounded : TableParts → CellItem → Result (Unit {0}) SumFault
item_bounded table (Sum c) = unless_over c (first_over table.shape.schema.columns c (rows_of table))
item_bounded table (Avg c) = unless_over c (first_over table.shape.schema.columns c (rows_of table))
item_bounded table _ = Ok tt

-- the sums of some items are within their bounds, or the first in their order that isn't
unfoldable pub sums_bounded : TableParts → List CellItem → Result (Unit {0}) SumFault
sums_bounded table [] = Ok tt
sums_bounded table (i ∷ is) = do
  bounded ← item_bounded table i
  sums_bounded table is
