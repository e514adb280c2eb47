-- The answer that a cell stands for can be printed.
use Rattle.std.proofs.Common.{◌≡◌, ℕ, zero, suc, ◌+◌, ◌*◌, ◌<◌, ◌≤◌, Bool, true, false, cond, eqb, List, [], ◌∷◌, ◌++◌, length, map, take, drop, slice_index, All, Option, None, Some, refl, arith}
use Rattle.std.specs.List.{AllByRecursion, AllZip}
use Rattle.std.proofs.lemmas.List.Elements.{All-nil, All-cons}
use Rattle.spl_values.specs.Kinds.{Fits}
use Rattle.spl_values.specs.Shapes.{ColumnParts}
use Rattle.spl_values.specs.declared.kinds.ColumnType.{ColumnType}
use Rattle.spl_values.specs.declared.kinds.ColumnType.TheVariants.{Uint, Text, Enum}
use Rattle.spl_values.specs.declared.values.Value.TheVariants as value
use Rattle.cell_merge.specs.declared.entry.Entry.{Entry}
use Rattle.cell_merge.specs.declared.spec.CellItem.{CellItem}
use Rattle.cell_merge.specs.declared.spec.CellItem.TheVariants.{Count, Sum, Avg, Max, Min, TopK}
use Rattle.cell_merge.specs.declared.spec.CellSpec.{CellSpec}
use Rattle.cell_merge.specs.Entries.{entries_of}
use Rattle.cell_merge.specs.Cells.{item_width, block_width, blocks, cell_width}
use Rattle.cell_merge.specs.TableRows.{HasLabels, GroupsLabels, SpecFits, kind_in}
use Rattle.clear_sql.specs.declared.answer.Outcome.{Outcome}
use Rattle.clear_sql.specs.declared.answer.Outcome.TheVariants as outcome
use Rattle.clear_sql.specs.declared.answer.Group.{Group}
use Rattle.clear_sql.specs.CellAnswers.{EntryReads, ItemReads, ItemsRead, BlocksRead, entry_row, outcome_of, outcomes_of, results_of, groups_of, answer_by, answer_of}
use Rattle.clear_sql.specs.AnswerText.{RowFits, OutcomeFits, GroupFits}
use Rattle.clear_sql.proofs.CellAnswers.{one-block-reads}

null_or : (P : Outcome → Type 0) (t : Bool) (o : Outcome) → P outcome.Null → P o → P (cond t outcome.Null o)
null_or P true o n h = n
null_or P false o n h = h

rows_fit : (columns : List ColumnParts) (s h : ℕ) (es : List Entry) → AllByRecursion (EntryReads columns s h) es → All (RowFits columns s h) (map (entry_row columns s h) es)
rows_fit columns s h [] reads = All-nil (RowFits columns s h)
rows_fit columns s h (e ∷ es) reads =
    All-cons (RowFits columns s h) (entry_row columns s h e) (map (entry_row columns s h) es) (reads.0.sort_code.fits, reads.0.show_code.fits) (rows_fit columns s h es reads.1)

outcome_fits : (columns : List ColumnParts) (i : CellItem) (n : ℕ) (ws : List ℕ) → ItemReads columns i ws → OutcomeFits columns i (outcome_of columns i n ws)
outcome_fits columns Count n ws reads = tt
outcome_fits columns (Sum c) n ws reads = null_or (OutcomeFits columns (Sum c)) (eqb n 0) (outcome.Sum (slice_index ws 0)) tt tt
outcome_fits columns (Avg c) n ws reads = null_or (OutcomeFits columns (Avg c)) (eqb n 0) (outcome.Avg (slice_index ws 0) n) tt tt
outcome_fits columns (Max c) n ws reads = null_or (OutcomeFits columns (Max c)) (eqb n 0) _ tt reads.fits
outcome_fits columns (Min c) n ws reads = null_or (OutcomeFits columns (Min c)) (eqb n 0) _ tt reads.fits
outcome_fits columns (TopK k s h) n ws reads = rows_fit columns s h (entries_of ws) reads

results_fit : (columns : List ColumnParts) (is : List CellItem) (n : ℕ) (ws : List ℕ) → ItemsRead columns is ws → AllZip (OutcomeFits columns) is (outcomes_of columns is n ws)
unfolding ItemsRead outcomes_of
results_fit columns [] n ws reads = tt
results_fit columns (i ∷ is) n ws reads = (outcome_fits columns i n (take (item_width i) ws) reads.0, results_fit columns is n (drop (item_width i) ws) reads.1)

group_or : (P : Group → Type 0) (t : Bool) (g : Group) (rest : List Group) → P g → All P rest → All P (cond t [] (g ∷ []) ++ rest)
group_or P true g rest h all = all
group_or P false g rest h all = All-cons P g rest h all

label_fits : (k : ColumnType) (labels label : ℕ) → HasLabels labels k → label < labels → Fits k (value.Label label)
label_fits (Uint b) labels label h k = absurd h
label_fits (Text n) labels label h k = absurd h
label_fits (Enum names) labels label h k = omega arith

labels_fit : (columns : List ColumnParts) (is : List CellItem) (spec : CellSpec) (column labels label n : ℕ) (ws : List ℕ) → spec.group ≡ Some column → spec.items ≡ is → HasLabels labels (kind_in columns column) → label + n ≤ labels
    → BlocksRead columns is n ws → All (GroupFits columns spec) (groups_of columns is label n ws)
unfolding BlocksRead groups_of
labels_fit columns is spec column labels label zero ws g e h room reads = All-nil (GroupFits columns spec)
labels_fit columns is spec column labels label (suc n) ws g e h room reads =
    let block = take (block_width is) ws in
    let g' : Group = record { label = Some label; results = results_of columns is block } in
    group_or (GroupFits columns spec) (eqb (slice_index block 0) 0) g' (groups_of columns is (label + 1) n (drop (block_width is) ws))
    (record { label_fits = rw g (label_fits (kind_in columns column) labels label h (omega arith)); results_fit = rw e (results_fit columns is (slice_index block 0) (drop 1 block) reads.0) })
    (labels_fit columns is spec column labels (label + 1) n (drop (block_width is) ws) g e h (omega arith) reads.1)

by_group : (columns : List ColumnParts) (spec : CellSpec) (o : Option ℕ) (cell : List ℕ) → spec.group ≡ o → GroupsLabels columns spec.labels o → length cell ≡ blocks o spec.labels * block_width spec.items
    → BlocksRead columns spec.items (blocks o spec.labels) cell → All (GroupFits columns spec) (answer_by columns spec o cell)
by_group columns spec None cell g grouped len reads =
    let whole : length cell ≡ block_width spec.items = omega arith in
    let one : Group = record { label = None; results = results_of columns spec.items cell } in
    All-cons (GroupFits columns spec) one []
    (record { label_fits = rw g tt; results_fit = results_fit columns spec.items (slice_index cell 0) (drop 1 cell) (one-block-reads columns spec.items cell whole reads) })
    (All-nil (GroupFits columns spec))
by_group columns spec (Some column) cell g grouped len reads = labels_fit columns spec.items spec column spec.labels 0 spec.labels cell g refl grouped.1 (omega arith) reads

pub cells_printable : (columns : List ColumnParts) (spec : CellSpec) (cell : List ℕ) → SpecFits spec columns → length cell ≡ cell_width spec → BlocksRead columns spec.items (blocks spec.group spec.labels) cell
    → All (GroupFits columns spec) (answer_of columns spec cell)
cells_printable columns spec cell fits len reads = by_group columns spec spec.group cell refl fits.grouped len reads
