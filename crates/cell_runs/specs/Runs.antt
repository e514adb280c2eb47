-- Runs: neighbours with one number, whose cells are merged.
use Rattle.std.specs.Prelude.{ℕ, ◌*◌, ◌==◌, List, [], ◌∷◌, take, drop, if◌then◌else◌}
use Rattle.std.specs.List.{fold}
use Rattle.cell_merge.specs.declared.spec.CellSpec.{CellSpec}
use Rattle.cell_merge.specs.Cells.{merge}
use Rattle.cell_runs.specs.CellsBy.{ArePairs}

-- a pair put behind others: where the last of them has its number, their cells are merged
unfoldable pub put_behind : CellSpec → List (ℕ × List ℕ) → ℕ × List ℕ → List (ℕ × List ℕ)
put_behind spec [] p = p ∷ []
put_behind spec (q ∷ []) p = if q.0 == p.0 then (q.0, merge spec q.1 p.1) ∷ [] else q ∷ p ∷ []
put_behind spec (q ∷ r ∷ l) p = q ∷ put_behind spec (r ∷ l) p

-- each run of neighbours with one number as one pair, its cells merged from the front
abbrev pub runs : CellSpec → List (ℕ × List ℕ) → List (ℕ × List ℕ)
runs spec pairs = fold (put_behind spec) [] pairs

-- the first so many cells are those of the pairs that are done, and from a place on stand those that are left
pub record IsMoving (width : ℕ) (done left : List (ℕ × List ℕ)) (kept place : ℕ) (keys cells : List ℕ) : Type 0 where
  pub front : ArePairs width done (take kept keys) (take (kept * width) cells)
  pub back : ArePairs width left (drop place keys) (drop (place * width) cells)
