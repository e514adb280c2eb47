-- The pairs of numbers and vectors that the words of counts and sums are folded over.
use Rattle.std.specs.Prelude.{◌≡◌, ℕ, ◌*◌, ◌^◌, ◌<◌, ◌≤◌, List, [], ◌∷◌, length, map, All, slice_index_or}
use Rattle.std.specs.List.{filter, flat_map}
use Rattle.spl_values.specs.Tables.{TableParts, key_of}
use Rattle.cell_merge.specs.Rows.{Row}
use Rattle.cell_merge.specs.Cells.{cell, cell_width}
use Rattle.cell_merge.specs.TableRows.{adds_in}
use Rattle.query_reader.specs.declared.checked.Checked.{Checked}
use Rattle.query_reader.specs.Matching.{is_kept, kept_rows}

-- the joined key of a table's row over the columns of the query's branches
abbrev pub joined_key : Checked → TableParts → Row → ℕ
joined_key checked table r = key_of table.shape.schema.columns (slice_index_or table.rows r.number []) checked.columns

-- the cell of one row of a table
abbrev pub row_cell : Checked → TableParts → Row → List ℕ
row_cell checked table r = cell (adds_in table.shape.schema.columns) checked.spec (r ∷ [])

-- the joined key of each row, with the cell of that row alone
abbrev pub pairs_of : Checked → TableParts → List Row → List (ℕ × List ℕ)
pairs_of checked table rows = map (λ r. (joined_key checked table r, row_cell checked table r)) rows

-- those rows that the public conditions keep
abbrev pub kept_of : Checked → List Row → List Row
kept_of checked rows = filter (is_kept checked.public) rows

-- the pairs of a query over a table: one for each kept row, in order
abbrev pub sum_pairs : Checked → TableParts → List (ℕ × List ℕ)
sum_pairs checked table = pairs_of checked table (kept_rows checked table)

-- keys and cells are those of the kept ones of some rows: as many keys as cells, each with no more bits than the joined key has
pub record AreRowCells (checked : Checked) (table : TableParts) (rows : List Row) (keys cells : List ℕ) : Type 0 where
  pub each_key : keys ≡ map (λ p. p.0) (pairs_of checked table (kept_of checked rows))
  pub each_cell : cells ≡ flat_map (λ p. p.1) (pairs_of checked table (kept_of checked rows))
  pub bits : All (λ x. x < 2 ^ checked.bits) keys
  pub whole : length cells ≡ length keys * cell_width checked.spec
  pub few : length keys ≤ length rows
