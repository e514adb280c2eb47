-- Positions of rows, and the pairs of positions and cells.
use Rattle.std.specs.Prelude.{ℕ, Bool, nat_lt, ◌==◌, ◌&&◌, ◌||◌, List, sum_by, if◌then◌else◌}
use Rattle.spl_values.specs.Tables.{TableParts}
use Rattle.cell_merge.specs.Rows.{Row}
use Rattle.cell_merge.specs.TableRows.{adds_in}
use Rattle.query_reader.specs.declared.checked.Checked.{Checked}
use Rattle.query_reader.specs.Matching.{kept_rows}
use Rattle.count_sum.specs.SumPairs.{joined_key}
use Rattle.cell_runs.specs.CellsBy.{cells_by}

-- whether a row comes before another: by its joined key, and of one key by its number
abbrev pub comes_before : Checked → TableParts → Row → Row → Bool
comes_before checked table a b = nat_lt (joined_key checked table a) (joined_key checked table b) || (joined_key checked table a == joined_key checked table b && nat_lt a.number b.number)

-- how many of some rows come before a row
abbrev pub count_before : Checked → TableParts → List Row → Row → ℕ
count_before checked table rows r = sum_by (λ s. if comes_before checked table s r then 1 else 0) rows

-- the position of a row: how many kept rows come before it
abbrev pub position : Checked → TableParts → Row → ℕ
position checked table r = count_before checked table (kept_rows checked table) r

-- each position, rising, with the cell of the kept row that has it
abbrev pub position_pairs : Checked → TableParts → List (ℕ × List ℕ)
position_pairs checked table = cells_by (adds_in table.shape.schema.columns) checked.spec (position checked table) (kept_rows checked table)
