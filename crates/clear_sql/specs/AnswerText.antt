-- The text of an answer.
use Rattle.std.specs.Prelude.{ℕ, List, [], ◌∷◌, ◌++◌, length, All, codes, Option, None, Some, slice_get}
use Rattle.std.specs.List.{AllZip, flat_map}
use Rattle.std.specs.Fmt.{decimal}
use Rattle.spl_values.specs.Kinds.{Fits}
use Rattle.spl_values.specs.CellTexts.{text_of_value}
use Rattle.spl_values.specs.Shapes.{ColumnParts}
use Rattle.spl_values.specs.declared.values.Value.{Value}
use Rattle.spl_values.specs.declared.values.Value.TheVariants as value
use Rattle.cell_merge.specs.declared.spec.CellItem.{CellItem}
use Rattle.cell_merge.specs.declared.spec.CellItem.TheVariants.{Count, Sum, Avg, Max, Min, TopK}
use Rattle.cell_merge.specs.declared.spec.CellSpec.{CellSpec}
use Rattle.cell_merge.specs.TableRows.{kind_in}
use Rattle.clear_sql.specs.declared.answer.TopRow.{TopRow}
use Rattle.clear_sql.specs.declared.answer.Outcome.{Outcome}
use Rattle.clear_sql.specs.declared.answer.Outcome.TheVariants as outcome
use Rattle.clear_sql.specs.declared.answer.Group.{Group}

-- the name of a column that is there
abbrev pub name_of : Option ColumnParts → List ℕ
name_of None = []
name_of (Some c) = c.name

-- the name of the column of that number
abbrev pub name_in : List ColumnParts → ℕ → List ℕ
name_in columns column = name_of (slice_get columns column)

-- an item as a query writes it
unfoldable pub item_text : List ColumnParts → CellItem → List ℕ
item_text columns Count = codes "COUNT(*)"
item_text columns (Sum c) = codes "SUM(" ++ name_in columns c ++ codes ")"
item_text columns (Avg c) = codes "AVG(" ++ name_in columns c ++ codes ")"
item_text columns (Max c) = codes "MAX(" ++ name_in columns c ++ codes ")"
item_text columns (Min c) = codes "MIN(" ++ name_in columns c ++ codes ")"
item_text columns (TopK k s h) = codes "TOPK(" ++ decimal k ++ codes ", " ++ name_in columns s ++ codes ", " ++ name_in columns h ++ codes ")"

-- the line of one of the best rows: its number and its two values, with bars between them
unfoldable pub row_line : List ColumnParts → ℕ → ℕ → TopRow → List ℕ
row_line columns sort show r = decimal r.row ++ codes "|" ++ text_of_value (kind_in columns sort) r.sort ++ codes "|" ++ text_of_value (kind_in columns show) r.show ++ 10 ∷ []

-- the lines of the best rows
abbrev pub row_lines : List ColumnParts → ℕ → ℕ → List TopRow → List ℕ
row_lines columns sort show rows = flat_map (row_line columns sort show) rows

-- the column whose greatest or least value an item gives
abbrev pub best_column : CellItem → Option ℕ
best_column (Max c) = Some c
best_column (Min c) = Some c
best_column Count = None
best_column (Sum c) = None
best_column (Avg c) = None
best_column (TopK k s h) = None

-- the sort column and the shown one of an item that gives the best rows
abbrev pub top_columns : CellItem → Option (ℕ × ℕ)
top_columns (TopK k s h) = Some (s, h)
top_columns Count = None
top_columns (Sum c) = None
top_columns (Avg c) = None
top_columns (Max c) = None
top_columns (Min c) = None

-- a value of the column that is there
abbrev pub best_text : List ColumnParts → Option ℕ → Value → List ℕ
best_text columns (Some c) v = text_of_value (kind_in columns c) v
best_text columns None v = []

-- the lines of the best rows by the two columns that are there
abbrev pub top_lines : List ColumnParts → Option (ℕ × ℕ) → List TopRow → List ℕ
top_lines columns (Some p) rows = row_lines columns p.0 p.1 rows
top_lines columns None rows = []

-- what stands behind the item in the first line of an outcome
abbrev pub outcome_text : List ColumnParts → CellItem → Outcome → List ℕ
outcome_text columns item (outcome.Count n) = decimal n
outcome_text columns item (outcome.Sum n) = decimal n
outcome_text columns item (outcome.Avg sum n) = decimal sum ++ codes "/" ++ decimal n
outcome_text columns item (outcome.Best v) = best_text columns (best_column item) v
outcome_text columns item outcome.Null = codes "NULL"
outcome_text columns item (outcome.Top rows) = decimal (length rows)

-- the lines below it, which only the best rows have
abbrev pub lines_below : List ColumnParts → CellItem → Outcome → List ℕ
lines_below columns item (outcome.Top rows) = top_lines columns (top_columns item) rows
lines_below columns item (outcome.Count n) = []
lines_below columns item (outcome.Sum n) = []
lines_below columns item (outcome.Avg sum n) = []
lines_below columns item (outcome.Best v) = []
lines_below columns item outcome.Null = []

-- the lines of an outcome
abbrev pub outcome_lines : List ColumnParts → CellItem → Outcome → List ℕ
outcome_lines columns item o = item_text columns item ++ codes " " ++ outcome_text columns item o ++ 10 ∷ [] ++ lines_below columns item o

-- the lines of the outcomes of some items
unfoldable pub results_lines : List ColumnParts → List CellItem → List Outcome → List ℕ
results_lines columns (i ∷ is) (o ∷ os) = outcome_lines columns i o ++ results_lines columns is os
results_lines columns _ _ = []

-- the line that begins a group, where a column groups the rows
unfoldable pub group_line : List ColumnParts → Option ℕ → Option ℕ → List ℕ
group_line columns (Some column) (Some label) = codes "GROUP " ++ text_of_value (kind_in columns column) (value.Label label) ++ 10 ∷ []
group_line columns _ _ = []

-- the lines of a group
abbrev pub group_lines : List ColumnParts → CellSpec → Group → List ℕ
group_lines columns spec g = group_line columns spec.group g.label ++ results_lines columns spec.items g.results

-- the text of an answer: the lines of its groups
abbrev pub answer_text : List ColumnParts → CellSpec → List Group → List ℕ
answer_text columns spec groups = flat_map (group_lines columns spec) groups

-- ---- answers that can be printed

-- a row among the best whose values fit their columns
abbrev pub RowFits : List ColumnParts → ℕ → ℕ → TopRow → Type 0
RowFits columns sort show r = Fits (kind_in columns sort) r.sort × Fits (kind_in columns show) r.show

-- a value that fits the column that is there
abbrev pub BestFits : List ColumnParts → Option ℕ → Value → Type 0
BestFits columns (Some c) v = Fits (kind_in columns c) v
BestFits columns None v = ⊥

-- rows whose values fit the columns that are there
abbrev pub TopFits : List ColumnParts → Option (ℕ × ℕ) → List TopRow → Type 0
TopFits columns (Some p) rows = All (RowFits columns p.0 p.1) rows
TopFits columns None rows = ⊥

-- an outcome that the item may have
abbrev pub OutcomeFits : List ColumnParts → CellItem → Outcome → Type 0
OutcomeFits columns item (outcome.Best v) = BestFits columns (best_column item) v
OutcomeFits columns item (outcome.Top rows) = TopFits columns (top_columns item) rows
OutcomeFits columns item (outcome.Count n) = Unit {0}
OutcomeFits columns item (outcome.Sum n) = Unit {0}
OutcomeFits columns item (outcome.Avg sum n) = Unit {0}
OutcomeFits columns item outcome.Null = Unit {0}

-- a label stands where a column groups the rows, and is one of that column's
abbrev pub LabelFits : List ColumnParts → Option ℕ → Option ℕ → Type 0
LabelFits columns None None = Unit {0}
LabelFits columns (Some column) (Some label) = Fits (kind_in columns column) (value.Label label)
LabelFits columns _ _ = ⊥

-- a group of such a query
pub record GroupFits (columns : List ColumnParts) (spec : CellSpec) (g : Group) : Type 0 where
  pub label_fits : LabelFits columns spec.group g.label
  pub results_fit : AllZip (OutcomeFits columns) spec.items g.results
