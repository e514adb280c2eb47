-- Which rows of a table match a query.
use Rattle.std.specs.Prelude.{ℕ, zero, suc, ◌+◌, ◌==◌, Bool, true, false, ◌&&◌, ◌||◌, nat_le, List, [], ◌∷◌, length, take, drop, if◌then◌else◌}
use Rattle.std.specs.List.{filter, list_all}
use Rattle.spl_values.specs.Tables.{TableParts}
use Rattle.cell_merge.specs.Rows.{Row, code}
use Rattle.cell_merge.specs.TableRows.{rows_of}
use Rattle.query_reader.specs.declared.checked.Checked.{Checked}

-- A code lies between two others, or is one of them.
abbrev pub is_between : ℕ → ℕ → ℕ → Bool
is_between lo hi x = nat_le lo x && nat_le x hi

-- A public condition holds of a row: the code in its column lies between the least and the greatest that it takes.
abbrev pub bound_holds : Row → ℕ × ℕ × ℕ → Bool
bound_holds r bound = is_between bound.1 bound.2 (code bound.0 r)

-- Every public condition holds of the row.
abbrev pub is_kept : List (ℕ × ℕ × ℕ) → Row → Bool
is_kept bounds r = list_all (bound_holds r) bounds

-- The rows of the table of which every public condition holds.
abbrev pub kept_rows : Checked → TableParts → List Row
kept_rows checked table = filter (is_kept checked.public) (rows_of table)

-- How many parameters a branch has: one for each column, and one more for a range.
abbrev pub branch_params : List ℕ → Bool → ℕ
branch_params columns range = length columns + (if range then 1 else 0)

-- A branch holds of a row: each of its columns has the code of its parameter, and the last, where it is a range, a code between its two.
unfoldable pub branch_holds : List ℕ → Bool → List ℕ → Row → Bool
branch_holds [] range params r = true
branch_holds (c ∷ []) true (lo ∷ hi ∷ more) r = is_between lo hi (code c r)
branch_holds (c ∷ []) false (p ∷ more) r = code c r == p
branch_holds (c ∷ d ∷ cs) range (p ∷ ps) r = code c r == p && branch_holds (d ∷ cs) range ps r
branch_holds _ _ _ _ = false

-- One of n branches holds of a row, each with its own parameters.
unfoldable pub some_branch_holds : ℕ → List ℕ → Bool → List ℕ → Row → Bool
some_branch_holds zero columns range params r = false
some_branch_holds (suc n) columns range params r =
    branch_holds columns range (take (branch_params columns range) params) r || some_branch_holds n columns range (drop (branch_params columns range) params) r

-- The rows that match: those that are kept and of which some branch holds.
abbrev pub matching_rows : Checked → List ℕ → TableParts → List Row
matching_rows checked params table = filter (some_branch_holds checked.branches checked.columns checked.range params) (kept_rows checked table)
