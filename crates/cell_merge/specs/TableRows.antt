-- Rows of a table as numbered rows of codes, and what a cell asks of the table's columns.
use Rattle.std.specs.Prelude.{◌≡◌, ℕ, ◌<◌, ◌≤◌, List, [], ◌∷◌, length, map, All, Option, None, Some, slice_get, slice_index_or}
use Rattle.std.specs.List.{range_with_len}
use Rattle.spl_values.specs.Codes.{code_of}
use Rattle.spl_values.specs.Shapes.{ColumnParts}
use Rattle.spl_values.specs.Tables.{TableParts, column_bits}
use Rattle.spl_values.specs.declared.kinds.ColumnType.{ColumnType}
use Rattle.spl_values.specs.declared.kinds.ColumnType.TheVariants.{Uint, Enum}
use Rattle.spl_values.specs.declared.values.Value.{Value}
use Rattle.cell_merge.specs.declared.spec.CellItem.{CellItem}
use Rattle.cell_merge.specs.declared.spec.CellItem.TheVariants.{Count, Sum, Avg, Max, Min, TopK}
use Rattle.cell_merge.specs.declared.spec.CellSpec.{CellSpec}
use Rattle.cell_merge.specs.Rows.{Row}
use Rattle.cell_merge.specs.Cells.{Addends}

-- the codes of a row's values, each by the type of its column
unfoldable pub codes_of : List ColumnParts → List Value → List ℕ
codes_of (c ∷ cs) (v ∷ vs) = code_of c.kind v ∷ codes_of cs vs
codes_of _ _ = []

-- the table's row of that number
abbrev pub row_in : TableParts → ℕ → Row
row_in table number = record { number = number; codes = codes_of table.shape.schema.columns (slice_index_or table.rows number []) }

-- the rows of a table, numbered from 0
abbrev pub rows_of : TableParts → List Row
rows_of table = map (row_in table) (range_with_len 0 (length table.rows))

-- the type of a column that is there, and numbers where none is
abbrev pub kind_or_numbers : Option ColumnParts → ColumnType
kind_or_numbers None = Uint 64
kind_or_numbers (Some c) = c.kind

-- the type of the column of that number
abbrev pub kind_in : List ColumnParts → ℕ → ColumnType
kind_in columns column = kind_or_numbers (slice_get columns column)

-- what a code of a column of that type adds to a sum: a number adds itself
abbrev pub addend_of : ColumnType → ℕ → ℕ
addend_of (Uint b) code = code
addend_of _ code = 0

-- what the codes of a table's columns add to sums
abbrev pub adds_in : List ColumnParts → Addends
adds_in columns column code = addend_of (kind_in columns column) code

-- a type of numbers
abbrev pub IsNumbers : ColumnType → Type 0
IsNumbers (Uint b) = Unit {0}
IsNumbers _ = ⊥

-- a type of so many labels
abbrev pub HasLabels : ℕ → ColumnType → Type 0
HasLabels labels (Enum names) = length names ≡ labels
HasLabels labels _ = ⊥

-- the columns of an item are there
abbrev pub HasColumns : List ColumnParts → CellItem → Type 0
HasColumns columns Count = Unit {0}
HasColumns columns (Sum c) = c < length columns
HasColumns columns (Avg c) = c < length columns
HasColumns columns (Max c) = c < length columns
HasColumns columns (Min c) = c < length columns
HasColumns columns (TopK k s h) = (s < length columns) × (h < length columns)

-- a column under a sum or a mean is one of numbers
abbrev pub AddsNumbers : List ColumnParts → CellItem → Type 0
AddsNumbers columns (Sum c) = IsNumbers (kind_in columns c)
AddsNumbers columns (Avg c) = IsNumbers (kind_in columns c)
AddsNumbers columns _ = Unit {0}

-- a column whose codes a cell keeps has codes of at most 64 bits
abbrev pub KeepsWords : List ColumnParts → CellItem → Type 0
KeepsWords columns (Max c) = column_bits columns c ≤ 64
KeepsWords columns (Min c) = column_bits columns c ≤ 64
KeepsWords columns (TopK k s h) = (column_bits columns s ≤ 64) × (column_bits columns h ≤ 64)
KeepsWords columns _ = Unit {0}

-- the group column is there, and has so many labels
abbrev pub GroupsLabels : List ColumnParts → ℕ → Option ℕ → Type 0
GroupsLabels columns labels None = Unit {0}
GroupsLabels columns labels (Some c) = (c < length columns) × HasLabels labels (kind_in columns c)

-- what a cell keeps can be had from rows of those columns
pub record SpecFits (spec : CellSpec) (columns : List ColumnParts) : Type 0 where
  pub present : All (HasColumns columns) spec.items
  pub summed : All (AddsNumbers columns) spec.items
  pub kept : All (KeepsWords columns) spec.items
  pub grouped : GroupsLabels columns spec.labels spec.group
