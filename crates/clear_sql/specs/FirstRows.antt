-- The rows that match among the first of a table.
use Rattle.std.specs.Prelude.{ℕ, List, take}
use Rattle.std.specs.List.{filter}
use Rattle.spl_values.specs.Tables.{TableParts}
use Rattle.cell_merge.specs.Rows.{Row}
use Rattle.cell_merge.specs.TableRows.{rows_of}
use Rattle.query_reader.specs.declared.checked.Checked.{Checked}
use Rattle.query_reader.specs.Matching.{is_kept, some_branch_holds}

-- the rows that match among the first n
abbrev pub first_matching : Checked → List ℕ → TableParts → ℕ → List Row
first_matching checked params table n =
    filter (some_branch_holds checked.branches checked.columns checked.range params) (filter (is_kept checked.public) (take n (rows_of table)))
