-- Which words can stand in cells over the rows of a table.
use Rattle.std.specs.Prelude.{ℕ, ◌+◌, ◌%◌, ◌^◌, ◌≤◌, All, Bool, true, false, ◌&&◌, nat_le, nat_lt, List, [], ◌∷◌, length, slice_index_or, Result, Ok, Err, if◌then◌else◌}
use Rattle.std.specs.List.{Contains, flat_map, list_all, range_with_len}
use Rattle.spl_values.specs.Kinds.{is_printable, text_of}
use Rattle.spl_values.specs.Codes.{value_with}
use Rattle.spl_values.specs.Shapes.{ColumnParts}
use Rattle.spl_values.specs.Tables.{TableParts}
use Rattle.spl_values.specs.declared.kinds.ColumnType.{ColumnType}
use Rattle.spl_values.specs.declared.kinds.ColumnType.TheVariants.{Uint, Text, Enum}
use Rattle.spl_values.specs.declared.values.Value.{Value}
use Rattle.spl_values.specs.declared.values.Value.TheVariants as value
use Rattle.cell_merge.specs.declared.spec.CellItem.{CellItem}
use Rattle.cell_merge.specs.declared.spec.CellItem.TheVariants.{Count, Sum, Avg, Max, Min, TopK}
use Rattle.cell_merge.specs.Rows.{Row}
use Rattle.cell_merge.specs.Cells.{block_width}
use Rattle.cell_merge.specs.TableRows.{kind_in, rows_of}
use Rattle.combiner.specs.declared.checking.WordKind.{WordKind}
use Rattle.combiner.specs.declared.checking.WordKind.TheVariants as kind
use Rattle.combiner.specs.declared.finals.FinalFault.{FinalFault}
use Rattle.combiner.specs.declared.finals.FinalFault.TheVariants.{BadWord}

-- ---- codes

-- a column of that type takes the value
abbrev pub is_value : ColumnType → Value → Bool
is_value (Uint b) (value.Number n) = nat_lt n (2 ^ b)
is_value (Text k) (value.Text n) = list_all is_printable (text_of n) && nat_le (length (text_of n)) k
is_value (Enum labels) (value.Label i) = nat_lt i (length labels)
is_value _ _ = false

-- a value that a column of that type takes has the code
abbrev pub is_code : ColumnType → ℕ → Bool
is_code column code = is_value column (value_with column code)

-- ---- what the words of cells are

-- what the words of an item are, one after the other
abbrev pub item_kinds : CellItem → List WordKind
item_kinds Count = []
item_kinds (Sum c) = kind.Sum ∷ []
item_kinds (Avg c) = kind.Sum ∷ []
item_kinds (Max c) = kind.Code c ∷ []
item_kinds (Min c) = kind.Code c ∷ []
item_kinds (TopK k s h) = flat_map (λ i. kind.Rows ∷ kind.Code s ∷ kind.Code h ∷ []) (range_with_len 0 k)

-- what the words of a block are: a count of rows, and the words of the items
abbrev pub block_kinds : List CellItem → List WordKind
block_kinds items = kind.Rows ∷ flat_map item_kinds items

-- what the word at that place of some cells is: all their blocks are alike
abbrev pub kind_at : List CellItem → ℕ → WordKind
kind_at items place = slice_index_or (block_kinds items) (place % block_width items) kind.Sum

-- ---- good words

-- a word can be one of that kind over so many rows: a count or the place of a row is at most the number of rows, a code is one of the column's, and a sum may be any word
abbrev pub is_good : List ColumnParts → ℕ → WordKind → ℕ → Bool
is_good columns rows kind.Rows word = nat_le word rows
is_good columns rows (kind.Code c) word = is_code (kind_in columns c) word
is_good columns rows kind.Sum word = true

-- all words from that place on are good, or the first that isn't is refused
unfoldable pub good_words : List ColumnParts → List CellItem → ℕ → ℕ → List ℕ → Result (Unit {0}) FinalFault
good_words columns items rows place [] = Ok tt
good_words columns items rows place (w ∷ ws) =
    if is_good columns rows (kind_at items place) w then good_words columns items rows (place + 1) ws else Err (BadWord place w)

-- ---- rows that have good cells

-- rows of the table, no more than it has
abbrev pub AreRowsOf : TableParts → List Row → Type 0
AreRowsOf table rows = All (Contains (rows_of table)) rows × (length rows ≤ table.shape.rows)
