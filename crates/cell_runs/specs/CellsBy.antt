-- Rows by a number that each of them has, and the cells of those that have one number.
use Rattle.std.specs.Prelude.{◌≡◌, ℕ, ◌==◌, List, length, map}
use Rattle.std.specs.List.{AllByRecursion, filter, flat_map}
use Rattle.spl_words.specs.Rising.{rising}
use Rattle.cell_merge.specs.declared.spec.CellSpec.{CellSpec}
use Rattle.cell_merge.specs.Rows.{Row}
use Rattle.cell_merge.specs.Cells.{Addends, cell}

-- the rows that have a number
abbrev pub rows_at : (Row → ℕ) → List Row → ℕ → List Row
rows_at number rows n = filter (λ r. number r == n) rows

-- each number that a row has, rising, with the cell of the rows that have it
abbrev pub cells_by : Addends → CellSpec → (Row → ℕ) → List Row → List (ℕ × List ℕ)
cells_by adds spec number rows = map (λ n. (n, cell adds spec (rows_at number rows n))) (rising (map number rows))

-- keys and cells, one cell behind the other, are those of some pairs
pub record ArePairs (width : ℕ) (pairs : List (ℕ × List ℕ)) (keys cells : List ℕ) : Type 0 where
  pub each_key : keys ≡ map (λ p. p.0) pairs
  pub each_cell : cells ≡ flat_map (λ p. p.1) pairs
  pub wide : AllByRecursion (λ p. length p.1 ≡ width) pairs
