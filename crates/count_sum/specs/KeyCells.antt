-- The pairs of joined keys and cells that greatest, least and best rows are folded over.
use Rattle.std.specs.Prelude.{ℕ, List}
use Rattle.spl_values.specs.Tables.{TableParts}
use Rattle.cell_merge.specs.TableRows.{adds_in}
use Rattle.query_reader.specs.declared.checked.Checked.{Checked}
use Rattle.query_reader.specs.Matching.{kept_rows}
use Rattle.count_sum.specs.SumPairs.{joined_key}
use Rattle.cell_runs.specs.CellsBy.{cells_by}

-- each joined key of a kept row, rising, with the cell of all kept rows that have it
abbrev pub key_pairs : Checked → TableParts → List (ℕ × List ℕ)
key_pairs checked table = cells_by (adds_in table.shape.schema.columns) checked.spec (joined_key checked table) (kept_rows checked table)
