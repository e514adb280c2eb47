-- The clear answer of a query over the rows that match it.
use Rattle.std.specs.Prelude.{ℕ, Bool, nat_lt, ◌==◌, ◌&&◌, ◌||◌, List, [], ◌∷◌, length, map, take, Option, None, Some}
use Rattle.std.specs.List.{sum_by, flat_map, range_with_len}
use Rattle.spl_values.specs.Codes.{value_with}
use Rattle.spl_values.specs.Shapes.{ColumnParts}
use Rattle.spl_values.specs.declared.values.Value.{Value}
use Rattle.cell_merge.specs.declared.spec.CellItem.{CellItem}
use Rattle.cell_merge.specs.declared.spec.CellItem.TheVariants.{Count, Sum, Avg, Max, Min, TopK}
use Rattle.cell_merge.specs.declared.spec.CellSpec.{CellSpec}
use Rattle.cell_merge.specs.Rows.{Row, code}
use Rattle.cell_merge.specs.Entries.{ordered}
use Rattle.cell_merge.specs.Cells.{addend, greatest, least, with_label}
use Rattle.cell_merge.specs.TableRows.{adds_in, kind_in}
use Rattle.clear_sql.specs.declared.answer.TopRow.{TopRow}
use Rattle.clear_sql.specs.declared.answer.Outcome.{Outcome}
use Rattle.clear_sql.specs.declared.answer.Outcome.TheVariants as outcome
use Rattle.clear_sql.specs.declared.answer.Group.{Group}

-- the value of a column with that code
abbrev pub value_in : List ColumnParts → ℕ → ℕ → Value
value_in columns column code = value_with (kind_in columns column) code

-- x stands before y among the best rows: the sort value falls, then the row's number rises
unfoldable pub is_better : ℕ → Row → Row → Bool
is_better sort x y = nat_lt (code sort y) (code sort x) || (code sort x == code sort y && nat_lt x.number y.number)

-- a row as one of the best
abbrev pub top_row : List ColumnParts → ℕ → ℕ → Row → TopRow
top_row columns sort show r = record { row = r.number; sort = value_in columns sort (code sort r); show = value_in columns show (code show r) }

-- what an item gives over some rows
abbrev pub clear_item : List ColumnParts → CellItem → List Row → Outcome
clear_item columns Count rows = outcome.Count (length rows)
clear_item columns (Sum c) [] = outcome.Null
clear_item columns (Sum c) (r ∷ rs) = outcome.Sum (sum_by (addend (adds_in columns) c) (r ∷ rs))
clear_item columns (Avg c) [] = outcome.Null
clear_item columns (Avg c) (r ∷ rs) = outcome.Avg (sum_by (addend (adds_in columns) c) (r ∷ rs)) (length (r ∷ rs))
clear_item columns (Max c) [] = outcome.Null
clear_item columns (Max c) (r ∷ rs) = outcome.Best (value_in columns c (greatest (map (code c) (r ∷ rs))))
clear_item columns (Min c) [] = outcome.Null
clear_item columns (Min c) (r ∷ rs) = outcome.Best (value_in columns c (least (map (code c) (r ∷ rs))))
clear_item columns (TopK k s h) rows = outcome.Top (map (top_row columns s h) (take k (ordered (is_better s) rows)))

-- what each item gives over some rows
abbrev pub clear_items : List ColumnParts → List CellItem → List Row → List Outcome
clear_items columns items rows = map (λ item. clear_item columns item rows) items

-- the group of a label and its rows, unless there is none
abbrev pub clear_label : List ColumnParts → List CellItem → ℕ → List Row → List Group
clear_label columns items label [] = []
clear_label columns items label (r ∷ rs) = record { label = Some label; results = clear_items columns items (r ∷ rs) } ∷ []

-- one group of all rows, or one for each label that has a row
abbrev pub clear_by : List ColumnParts → CellSpec → Option ℕ → List Row → List Group
clear_by columns spec None rows = record { label = None; results = clear_items columns spec.items rows } ∷ []
clear_by columns spec (Some column) rows = flat_map (λ label. clear_label columns spec.items label (with_label column rows label)) (range_with_len 0 spec.labels)

-- the clear answer over the rows that match
abbrev pub clear : List ColumnParts → CellSpec → List Row → List Group
clear columns spec rows = clear_by columns spec spec.group rows
