-- What an answer means: each outcome, by what it is of the rows that it is over.
use Rattle.std.specs.Prelude.{◌≡◌, ℕ, ◌<◌, ◌≤◌, Bool, nat_lt, List, [], ◌∷◌, length, map, take, All, Contains, Option, Some, IsPermutation, IsSortedBy}
use Rattle.std.specs.List.{AllByRecursion, AllZip}
use Rattle.std.specs.List.Sorted.{IsStableBy}
use Rattle.spl_values.specs.Shapes.{ColumnParts}
use Rattle.cell_merge.specs.declared.spec.CellItem.{CellItem}
use Rattle.cell_merge.specs.declared.spec.CellItem.TheVariants.{Count, Sum, Avg, Max, Min, TopK}
use Rattle.cell_merge.specs.declared.spec.CellSpec.{CellSpec}
use Rattle.cell_merge.specs.Rows.{Row, code}
use Rattle.cell_merge.specs.Cells.{with_label}
use Rattle.clear_sql.specs.declared.answer.TopRow.{TopRow}
use Rattle.clear_sql.specs.declared.answer.Outcome.{Outcome}
use Rattle.clear_sql.specs.declared.answer.Outcome.TheVariants as outcome
use Rattle.clear_sql.specs.declared.answer.Group.{Group}
use Rattle.clear_sql.specs.Clear.{value_in, top_row, clear_item}

-- the numbers of the rows rise, as those of a table do
abbrev pub RowsRise : List Row → Type 0
RowsRise [] = Unit {0}
RowsRise (r ∷ rs) = AllByRecursion (λ (s : Row). r.number < s.number) rs × RowsRise rs

-- ---- the greatest and the least

-- a code that some row has, and no row's is above it
pub record IsGreatest (column : ℕ) (rows : List Row) (best : ℕ) : Type 0 where
  pub bound : All (λ r. code column r ≤ best) rows
  pub had : Contains (map (code column) rows) best

-- a code that some row has, and no row's is below it
pub record IsLeast (column : ℕ) (rows : List Row) (best : ℕ) : Type 0 where
  pub bound : All (λ r. best ≤ code column r) rows
  pub had : Contains (map (code column) rows) best

-- the value of such a code, or NULL exactly over no row
abbrev pub IsBest : (ℕ → Type 0) → List ColumnParts → ℕ → List Row → Outcome → Type 0
IsBest is columns column rows (outcome.Best v) = (best : ℕ) × is best × (v ≡ value_in columns column best)
IsBest is columns column rows outcome.Null = rows ≡ []
IsBest is columns column rows _ = ⊥

-- ---- the best rows

-- x has a greater sort value than y
abbrev pub sorts_above : ℕ → Row → Row → Bool
sorts_above sort x y = nat_lt (code sort y) (code sort x)

-- the same rows in falling order of their sort values, equal ones in the order that they had
pub record IsFalling (sort : ℕ) (rows sorted : List Row) : Type 0 where
  pub same_rows : IsPermutation rows sorted
  pub falling : IsSortedBy (sorts_above sort) sorted
  pub equal_stay : IsStableBy (sorts_above sort) rows sorted

-- the first k of the rows in falling order, each with its number and its two values
pub record AreBest (columns : List ColumnParts) (k sort show : ℕ) (rows : List Row) (top : List TopRow) : Type 0 where
  pub sorted : List Row
  pub order : IsFalling sort rows sorted
  pub first : top ≡ map (top_row columns sort show) (take k sorted)

-- the outcome that has those rows
abbrev pub IsTop : List ColumnParts → ℕ → ℕ → ℕ → List Row → Outcome → Type 0
IsTop columns k sort show rows (outcome.Top top) = AreBest columns k sort show rows top
IsTop columns k sort show rows _ = ⊥

-- ---- all outcomes

-- what an item gives over some rows
abbrev pub IsOutcome : List ColumnParts → List Row → CellItem → Outcome → Type 0
IsOutcome columns rows Count o = o ≡ outcome.Count (length rows)
IsOutcome columns rows (Sum c) o = o ≡ clear_item columns (Sum c) rows
IsOutcome columns rows (Avg c) o = o ≡ clear_item columns (Avg c) rows
IsOutcome columns rows (Max c) o = IsBest (IsGreatest c rows) columns c rows o
IsOutcome columns rows (Min c) o = IsBest (IsLeast c rows) columns c rows o
IsOutcome columns rows (TopK k s h) o = IsTop columns k s h rows o

-- the rows of a group: those with its label, or all where no column groups them
abbrev pub rows_under : Option ℕ → Option ℕ → List Row → List Row
rows_under (Some column) (Some label) rows = with_label column rows label
rows_under _ _ rows = rows

-- each outcome of a group is what its item gives over the group's rows
pub record IsGroupOver (columns : List ColumnParts) (spec : CellSpec) (rows : List Row) (g : Group) : Type 0 where
  pub each : AllZip (IsOutcome columns (rows_under spec.group g.label rows)) spec.items g.results
