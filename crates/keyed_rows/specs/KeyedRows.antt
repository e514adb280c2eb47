-- Rows of a table with their joined keys.
use Rattle.std.specs.Prelude.{◌≡◌, ℕ, ◌<◌, List, ◌∷◌, []}
use Rattle.spl_values.specs.Tables.{TableParts}
use Rattle.cell_merge.specs.Rows.{Row}
use Rattle.cell_merge.specs.Cells.{cell}
use Rattle.cell_merge.specs.TableRows.{adds_in, row_in}
use Rattle.query_reader.specs.declared.checked.Checked.{Checked}
use Rattle.count_sum.specs.SumPairs.{joined_key}
use Rattle.keyed_rows.specs.declared.rows.KeyedRow.{KeyedRow}

-- a row with its joined key
abbrev pub keyed : Checked → TableParts → Row → KeyedRow
keyed checked table r = record { key = joined_key checked table r; row = r.number }

-- the key is that of a row of the table
abbrev pub IsKeyed : Checked → TableParts → KeyedRow → Type 0
IsKeyed checked table k = (k.row < table.shape.rows) × (k.key ≡ joined_key checked table (row_in table k.row))

-- the key of a row, and the cell of that row alone
abbrev pub row_pair : Checked → TableParts → KeyedRow → ℕ × List ℕ
row_pair checked table k = (k.key, cell (adds_in table.shape.schema.columns) checked.spec (row_in table k.row ∷ []))

-- the row itself
abbrev pub row_of : TableParts → KeyedRow → Row
row_of table k = row_in table k.row
