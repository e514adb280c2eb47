-- The answer that a cell stands for, whatever words it holds.
use Rattle.std.specs.Prelude.{◌≡◌, ℕ, zero, suc, ◌+◌, ◌-◌, ◌≤◌, ◌==◌, if◌then◌else◌, List, [], ◌∷◌, ◌++◌, map, take, drop, slice_index, Option, None, Some}
use Rattle.std.specs.List.{AllByRecursion}
use Rattle.spl_values.specs.Kinds.{Fits}
use Rattle.spl_values.specs.Codes.{code_of, value_with}
use Rattle.spl_values.specs.Shapes.{ColumnParts}
use Rattle.spl_values.specs.declared.kinds.ColumnType.{ColumnType}
use Rattle.cell_merge.specs.declared.entry.Entry.{Entry}
use Rattle.cell_merge.specs.declared.spec.CellItem.{CellItem}
use Rattle.cell_merge.specs.declared.spec.CellItem.TheVariants.{Count, Sum, Avg, Max, Min, TopK}
use Rattle.cell_merge.specs.declared.spec.CellSpec.{CellSpec}
use Rattle.cell_merge.specs.Entries.{entries_of}
use Rattle.cell_merge.specs.Cells.{item_width, block_width}
use Rattle.cell_merge.specs.TableRows.{kind_in}
use Rattle.clear_sql.specs.declared.answer.TopRow.{TopRow}
use Rattle.clear_sql.specs.declared.answer.Outcome.{Outcome}
use Rattle.clear_sql.specs.declared.answer.Outcome.TheVariants as outcome
use Rattle.clear_sql.specs.declared.answer.Group.{Group}
use Rattle.clear_sql.specs.Clear.{value_in}

-- ---- what a cell has to hold so that it can be read

-- a code that a value of that type has
pub record IsCode (kind : ColumnType) (code : ℕ) : Type 0 where
  pub fits : Fits kind (value_with kind code)
  pub same : code_of kind (value_with kind code) ≡ code

-- an entry whose row's number and values can be read
pub record EntryReads (columns : List ColumnParts) (sort show : ℕ) (e : Entry) : Type 0 where
  pub row : e.place ≤ 262144
  pub sort_code : IsCode (kind_in columns sort) e.sort
  pub show_code : IsCode (kind_in columns show) e.show

-- words of an item that can be read
abbrev pub ItemReads : List ColumnParts → CellItem → List ℕ → Type 0
ItemReads columns (Max c) ws = IsCode (kind_in columns c) (slice_index ws 0)
ItemReads columns (Min c) ws = IsCode (kind_in columns c) (slice_index ws 0)
ItemReads columns (TopK k s h) ws = AllByRecursion (EntryReads columns s h) (entries_of ws)
ItemReads columns _ ws = Unit {0}

-- words of several items that can be read
unfoldable pub ItemsRead : List ColumnParts → List CellItem → List ℕ → Type 0
ItemsRead columns [] ws = Unit {0}
ItemsRead columns (i ∷ is) ws = ItemReads columns i (take (item_width i) ws) × ItemsRead columns is (drop (item_width i) ws)

-- so many blocks that can be read
unfoldable pub BlocksRead : List ColumnParts → List CellItem → ℕ → List ℕ → Type 0
BlocksRead columns items zero ws = Unit {0}
BlocksRead columns items (suc n) ws = ItemsRead columns items (drop 1 (take (block_width items) ws)) × BlocksRead columns items n (drop (block_width items) ws)

-- ---- what it says

-- an entry as one of the best rows
abbrev pub entry_row : List ColumnParts → ℕ → ℕ → Entry → TopRow
entry_row columns sort show e = record { row = e.place - 1; sort = value_in columns sort e.sort; show = value_in columns show e.show }

-- what an item's words say, beside a count of n rows
abbrev pub outcome_of : List ColumnParts → CellItem → ℕ → List ℕ → Outcome
outcome_of columns Count n ws = outcome.Count n
outcome_of columns (Sum c) n ws = if n == 0 then outcome.Null else outcome.Sum (slice_index ws 0)
outcome_of columns (Avg c) n ws = if n == 0 then outcome.Null else outcome.Avg (slice_index ws 0) n
outcome_of columns (Max c) n ws = if n == 0 then outcome.Null else outcome.Best (value_in columns c (slice_index ws 0))
outcome_of columns (Min c) n ws = if n == 0 then outcome.Null else outcome.Best (value_in columns c (slice_index ws 0))
outcome_of columns (TopK k s h) n ws = outcome.Top (map (entry_row columns s h) (entries_of ws))

-- what the words of several items say
unfoldable pub outcomes_of : List ColumnParts → List CellItem → ℕ → List ℕ → List Outcome
outcomes_of columns [] n ws = []
outcomes_of columns (i ∷ is) n ws = outcome_of columns i n (take (item_width i) ws) ∷ outcomes_of columns is n (drop (item_width i) ws)

-- what a block says: its first word is the count
abbrev pub results_of : List ColumnParts → List CellItem → List ℕ → List Outcome
results_of columns items ws = outcomes_of columns items (slice_index ws 0) (drop 1 ws)

-- the group of a label's block, unless its count is 0
abbrev pub label_group : List ColumnParts → List CellItem → ℕ → List ℕ → List Group
label_group columns items label ws = if slice_index ws 0 == 0 then [] else record { label = Some label; results = results_of columns items ws } ∷ []

-- the groups of n labels from the first on
unfoldable pub groups_of : List ColumnParts → List CellItem → ℕ → ℕ → List ℕ → List Group
groups_of columns items label zero ws = []
groups_of columns items label (suc n) ws = label_group columns items label (take (block_width items) ws) ++ groups_of columns items (label + 1) n (drop (block_width items) ws)

-- one group, or those of the labels
abbrev pub answer_by : List ColumnParts → CellSpec → Option ℕ → List ℕ → List Group
answer_by columns spec None ws = record { label = None; results = results_of columns spec.items ws } ∷ []
answer_by columns spec (Some column) ws = groups_of columns spec.items 0 spec.labels ws

-- the answer that a cell stands for
abbrev pub answer_of : List ColumnParts → CellSpec → List ℕ → List Group
answer_of columns spec ws = answer_by columns spec spec.group ws
