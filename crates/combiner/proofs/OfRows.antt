-- The words of the cells of rows of a table are good.
use Rattle.std.proofs.Common.{◌≡◌, ℕ, zero, suc, ◌+◌, ◌*◌, ◌^◌, ◌<◌, ◌≤◌, Bool, true, eqb, leb, List, [], ◌∷◌, length, map, Option, None, Some, Ok, refl, sym, ap, ◌∙◌, arith}
use Rattle.std.specs.Prelude.{All}
use Rattle.std.specs.List.{AllByRecursion, Contains, filter, flat_map, range_with_len}
use Rattle.std.proofs.lemmas.Bool.{le-leb}
use Rattle.std.proofs.lemmas.List.Concat.{flat_map-cons}
use Rattle.std.proofs.lemmas.List.Elements.{All-contains, All-contains_itself, All-filter, All-from_recursion, All-weaker, recursion_from_All}
use Rattle.std.proofs.lemmas.List.FromFn.{get_or-map-range_with_len, length-map-range_with_len}
use Rattle.std.proofs.Math.Nat.{add-mul, zero-mul}
use Rattle.spl_values.specs.Shapes.{ColumnParts, SchemaParts, IsSchema}
use Rattle.spl_values.specs.Tables.{TableParts, IsTable}
use Rattle.cell_merge.specs.Rows.{Row, Apart, Interleaves, code}
use Rattle.cell_merge.specs.Rows.Interleaves.{none, right}
use Rattle.cell_merge.specs.declared.entry.Entry.{Entry}
use Rattle.cell_merge.specs.declared.spec.CellItem.{CellItem}
use Rattle.cell_merge.specs.declared.spec.CellItem.TheVariants.{Count, Sum, Avg, Max, Min, TopK}
use Rattle.cell_merge.specs.declared.spec.CellSpec.{CellSpec}
use Rattle.cell_merge.specs.Entries.{entry, in_order, words_of}
use Rattle.cell_merge.specs.Cells.{Addends, block, block_width, blocks, cell, cell_width, greatest, groups, item_words, items_words, least, merge, merge_all, with_label}
use Rattle.cell_merge.specs.TableRows.{HasColumns, kind_in, row_in, rows_of}
use Rattle.cell_merge.proofs.All.{cell_empty}
use Rattle.cell_merge.proofs.Labels.{cell_merge, length-block}
use Rattle.cell_merge.proofs.Lists.{each-filter, each-map, each_weaker, length-filter-le}
use Rattle.cell_merge.proofs.Sorting.{each-in_order}
use Rattle.clear_sql.proofs.GoodCells.{GoodRow, good_rows, length-cell}
use Rattle.query_reader.specs.declared.checked.Checked.{Checked}
use Rattle.query_reader.specs.Accepted.{IsCheckedFor}
use Rattle.query_reader.proofs.Known.{checked_fits}
use Rattle.combiner.specs.GoodWords.{AreRowsOf, block_kinds, good_words, is_code, item_kinds}
use Rattle.combiner.specs.Finals.{cells_in}
use Rattle.combiner.proofs.Codes.{code_told, zero_told}
use Rattle.combiner.proofs.Cuts.{cut_again}
use Rattle.combiner.proofs.WordKinds.{top_kinds}
use Rattle.combiner.proofs.Good.{EachGood, block_good, good_before, good_parts}
use Rattle.combiner.proofs.Merged.{Typed, max_one, min_one, typed_columns}
use Rattle.combiner.proofs.Plans.{cell_some}

-- ---- rows

-- the row's place is at most the number of rows, and its codes are those of its columns
record RowFits (columns : List ColumnParts) (count : ℕ) (r : Row) : Type 0 where
  pub place : r.number + 1 ≤ count
  pub codes : (i : ℕ) → i < length columns → is_code (kind_in columns i) (code i r) ≡ true

-- some rows, no more than there are
abbrev GroupFits : List ColumnParts → ℕ → List Row → Type 0
GroupFits columns count g = (length g ≤ count) × AllByRecursion (RowFits columns count) g

number_of : (t : TableParts) (r : Row) → IsTable t → Contains (rows_of t) r → r.number + 1 ≤ t.shape.rows
number_of t r table own =
    let n = length t.rows in
    let count = length-map-range_with_len (row_in t) 0 n in
    let all = table.count in
    let at : own.0 < n = omega (arith, own.1, count) in
    let is : row_in t own.0 ≡ r = sym (get_or-map-range_with_len (row_in t) 0 n own.0 own.0 r at (omega arith)) ∙ own.2 in
    let number : own.0 ≡ r.number = ap (λ (x : Row). x.number) is in
    omega (arith, at, number, all)

row_fits : (t : TableParts) → IsTable t → (r : Row) → Contains (rows_of t) r → RowFits t.shape.schema.columns t.shape.rows r
row_fits t table r own =
    let columns = t.shape.schema.columns in
    let good = All-contains (GoodRow columns) (rows_of t) r (All-from_recursion (GoodRow columns) (rows_of t) (good_rows t table)) own in
    record {
      place = number_of t r table own;
      codes = λ i at. code_told (kind_in columns i) (code i r) (good.codes i at);
    }

rows_fit : (t : TableParts) → IsTable t → (rows : List Row) → All (Contains (rows_of t)) rows → AllByRecursion (RowFits t.shape.schema.columns t.shape.rows) rows
rows_fit t table rows own =
    let columns = t.shape.schema.columns in
    recursion_from_All (RowFits columns t.shape.rows) rows (All-weaker (Contains (rows_of t)) (RowFits columns t.shape.rows) (row_fits t table) rows own)

-- ---- groups

-- what the rows that pass a test keep holds of each group
labels_each : (P : List Row → Type 0) → ((keeps : Row → Bool) (rows : List Row) → P rows → P (filter keeps rows)) → (column : ℕ) (rows : List Row) → P rows → (labels : List ℕ) → AllByRecursion P (map (with_label column rows) labels)
labels_each P kept column rows h [] = tt
labels_each P kept column rows h (l ∷ ls) = (kept (λ (r : Row). eqb (code column r) l) rows h, labels_each P kept column rows h ls)

groups_each : (P : List Row → Type 0) → ((keeps : Row → Bool) (rows : List Row) → P rows → P (filter keeps rows)) → (group : Option ℕ) (labels : ℕ) (rows : List Row) → P rows → AllByRecursion P (groups group labels rows)
groups_each P kept None labels rows h = (h, tt)
groups_each P kept (Some column) labels rows h = labels_each P kept column rows h (range_with_len 0 labels)

-- no group has more rows than all have
pub groups_small : (group : Option ℕ) (labels n : ℕ) (rows : List Row) → length rows ≤ n → AllByRecursion (λ (g : List Row). length g ≤ n) (groups group labels rows)
groups_small group labels n rows le = groups_each (λ (g : List Row). length g ≤ n) (λ keeps rows few. omega (arith, few, length-filter-le keeps rows)) group labels rows le

-- ---- one of many

greatest_one : (P : ℕ → Type 0) (xs : List ℕ) → P 0 → AllByRecursion P xs → P (greatest xs)
unfolding greatest
greatest_one P [] z h = z
greatest_one P (x ∷ xs) z h = max_one P x (greatest xs) h.0 (greatest_one P xs z h.1)

least_one : (P : ℕ → Type 0) (xs : List ℕ) → P 0 → AllByRecursion P xs → P (least xs)
unfolding least
least_one P [] z h = z
least_one P (x ∷ []) z h = h.0
least_one P (x ∷ y ∷ ys) z h = min_one P x (least (y ∷ ys)) h.0 (least_one P (y ∷ ys) z h.1)

module _ (columns : List ColumnParts) (typed : Typed columns) (count : ℕ) (adds : Addends) where
  -- ---- a block

  abbrev IsCodeOf : ℕ → ℕ → Type 0
  IsCodeOf c x = is_code (kind_in columns c) x ≡ true

  codes_fit : (c : ℕ) (rows : List Row) → c < length columns → AllByRecursion (RowFits columns count) rows → AllByRecursion (IsCodeOf c) (map (code c) rows)
  codes_fit c rows has fit = each-map (IsCodeOf c) (code c) rows (each_weaker (RowFits columns count) (λ r. IsCodeOf c (code c r)) (λ r fits. fits.codes c has) rows fit)

  record EntryFits (s h : ℕ) (e : Entry) : Type 0 where
    pub place : leb e.place count ≡ true
    pub sort : IsCodeOf s e.sort
    pub show : IsCodeOf h e.show

  entries_fit : (s h : ℕ) (rows : List Row) → s < length columns → h < length columns → AllByRecursion (RowFits columns count) rows → AllByRecursion (EntryFits s h) (map (entry s h) rows)
  entries_fit s h rows a b fit =
      each-map (EntryFits s h) (entry s h) rows
      (each_weaker (RowFits columns count) (λ r. EntryFits s h (entry s h r)) (λ r fits. record { place = le-leb (r.number + 1) count fits.place; sort = fits.codes s a; show = fits.codes h b }) rows fit)

  top_good : (s h l k : ℕ) (es : List Entry) → s < length columns → h < length columns → AllByRecursion (EntryFits s h) es → EachGood columns count (top_kinds s h l k) (words_of k es)
  unfolding words_of
  top_good s h l zero es a b fit = tt
  top_good s h l (suc k) [] a b fit =
      (le-leb 0 count (omega arith), (zero_told (kind_in columns s) (typed s a), (zero_told (kind_in columns h) (typed h b), top_good s h (l + 1) k [] a b tt)))
  top_good s h l (suc k) (e ∷ es) a b fit = (fit.0.place, (fit.0.sort, (fit.0.show, top_good s h (l + 1) k es a b fit.1)))

  item_good : (i : CellItem) (rows : List Row) → HasColumns columns i → AllByRecursion (RowFits columns count) rows → EachGood columns count (item_kinds i) (item_words adds i rows)
  item_good Count rows has fit = tt
  item_good (Sum c) rows has fit = (refl, tt)
  item_good (Avg c) rows has fit = (refl, tt)
  item_good (Max c) rows has fit = (greatest_one (IsCodeOf c) (map (code c) rows) (zero_told (kind_in columns c) (typed c has)) (codes_fit c rows has fit), tt)
  item_good (Min c) rows has fit = (least_one (IsCodeOf c) (map (code c) rows) (zero_told (kind_in columns c) (typed c has)) (codes_fit c rows has fit), tt)
  item_good (TopK k s h) rows has fit =
      top_good s h 0 k (in_order (map (entry s h) rows)) has.0 has.1 (each-in_order (EntryFits s h) (map (entry s h) rows) (entries_fit s h rows has.0 has.1 fit))

  items_good : (is : List CellItem) (rows : List Row) → AllByRecursion (HasColumns columns) is → AllByRecursion (RowFits columns count) rows → EachGood columns count (flat_map item_kinds is) (items_words adds is rows)
  unfolding items_words
  items_good [] rows has fit = tt
  items_good (i ∷ is) rows has fit =
      good_parts columns count (item_kinds i) (flat_map item_kinds is) (item_words adds i rows) (items_words adds is rows) (item_good i rows has.0 fit) (items_good is rows has.1 fit)

  each_good : (is : List CellItem) (g : List Row) → AllByRecursion (HasColumns columns) is → GroupFits columns count g → EachGood columns count (block_kinds is) (block adds is g)
  unfolding block
  each_good is g has fit = (le-leb (length g) count fit.0, items_good is g has fit.1)

  rows_good : (is : List CellItem) (i : ℕ) (g : List Row) → AllByRecursion (HasColumns columns) is → GroupFits columns count g → good_words columns is count (i * block_width is) (block adds is g) ≡ Ok tt
  rows_good is i g has fit = block_good columns is count i (block adds is g) (length-block adds is g) (each_good is g has fit)

  -- ---- a cell

  groups_good : (is : List CellItem) (i : ℕ) (gs : List (List Row)) → AllByRecursion (HasColumns columns) is → AllByRecursion (GroupFits columns count) gs
      → good_words columns is count (i * block_width is) (flat_map (block adds is) gs) ≡ Ok tt
  unfolding good_words
  groups_good is i [] has fit = refl
  groups_good is i (g ∷ gs) has fit =
      let w = block_width is in
      let rest = flat_map (block adds is) gs in
      let here = good_before columns is count (i * w) (block adds is g) rest (rows_good is i g has fit.0) in
      let next : i * w + length (block adds is g) ≡ (i + 1) * w = omega (arith, length-block adds is g, add-mul i 1 w) in
      rw flat_map-cons (here ∙ ap (λ (p : ℕ). good_words columns is count p rest) next ∙ groups_good is (i + 1) gs has fit.1)

  groups_fit : (group : Option ℕ) (labels : ℕ) (rows : List Row) → GroupFits columns count rows → AllByRecursion (GroupFits columns count) (groups group labels rows)
  groups_fit =
      groups_each (GroupFits columns count) (λ keeps rows fit. let few = fit.0 in (omega (arith, few, length-filter-le keeps rows), each-filter (RowFits columns count) keeps rows fit.1))

  -- ---- cells

  cells_good : (spec : CellSpec) (i : ℕ) (rowses : List (List Row)) → AllByRecursion (HasColumns columns) spec.items → AllByRecursion (GroupFits columns count) rowses
      → good_words columns spec.items count (i * block_width spec.items) (flat_map (cell adds spec) rowses) ≡ Ok tt
  unfolding good_words
  cells_good spec i [] has fit = refl
  cells_good spec i (rows ∷ rowses) has fit =
      let w = block_width spec.items in
      let n = blocks spec.group spec.labels in
      let rest = flat_map (cell adds spec) rowses in
      let own = groups_good spec.items i (groups spec.group spec.labels rows) has (groups_fit spec.group spec.labels rows fit.0) in
      let here = good_before columns spec.items count (i * w) (cell adds spec rows) rest own in
      let next : i * w + length (cell adds spec rows) ≡ (i + n) * w = omega (arith, length-cell adds spec rows, add-mul i n w) in
      rw flat_map-cons (here ∙ ap (λ (p : ℕ). good_words columns spec.items count p rest) next ∙ cells_good spec (i + n) rowses has fit.1)

-- ---- rows of a table

pub all_rows : (t : TableParts) → IsTable t → AreRowsOf t (rows_of t)
all_rows t table =
    let count = table.count in
    (All-contains_itself (rows_of t), omega (arith, length-map-range_with_len (row_in t) 0 (length t.rows), count))

pub some_rows : (t : TableParts) (keeps : Row → Bool) (rows : List Row) → AreRowsOf t rows → AreRowsOf t (filter keeps rows)
some_rows t keeps rows are = let few = are.1 in (All-filter keeps (Contains (rows_of t)) rows are.0, omega (arith, few, length-filter-le keeps rows))

pub table_cells_good : (adds : Addends) (checked : Checked) (t : TableParts) (rowses : List (List Row)) → IsTable t → IsCheckedFor checked t.shape.schema → All (AreRowsOf t) rowses
    → good_words t.shape.schema.columns checked.spec.items t.shape.rows 0 (flat_map (cell adds checked.spec) rowses) ≡ Ok tt
table_cells_good adds checked t rowses table known own =
    let columns = t.shape.schema.columns in
    let fits = checked_fits checked t.shape.schema known in
    let first : 0 * block_width checked.spec.items ≡ 0 = zero-mul (block_width checked.spec.items) in
    let each = recursion_from_All (GroupFits columns t.shape.rows) rowses (All-weaker (AreRowsOf t) (GroupFits columns t.shape.rows) (λ rows h. (h.1, rows_fit t table rows h.0)) rowses own) in
    ap (λ (p : ℕ). good_words columns checked.spec.items t.shape.rows p (flat_map (cell adds checked.spec) rowses)) (sym first)
    ∙ cells_good columns (typed_columns columns table.shape.schema.columns) t.shape.rows adds checked.spec 0 rowses (recursion_from_All (HasColumns columns) checked.spec.items fits.present) each

pub cells_cut : (adds : Addends) (checked : Checked) (schema : SchemaParts) (rowses : List (List Row)) → IsSchema schema → IsCheckedFor checked schema
    → cells_in (cell_width checked.spec) (flat_map (cell adds checked.spec) rowses) ≡ map (cell adds checked.spec) rowses
cells_cut adds checked schema rowses is known =
    cut_again (cell adds checked.spec) (cell_width checked.spec) (cell_some checked.spec schema.columns is.columns (checked_fits checked schema known)) (length-cell adds checked.spec) rowses

all_right : (rows : List Row) → Interleaves [] rows rows
all_right [] = none
all_right (r ∷ rs) = right r [] rs rs (all_right rs)

pub cell_alone : (adds : Addends) (spec : CellSpec) (rows : List Row) → Apart rows → length rows < 2 ^ 64 → merge_all spec (cell adds spec rows ∷ []) ≡ cell adds spec rows
cell_alone adds spec rows apart few =
    ap (λ (l : List ℕ). merge spec l (cell adds spec rows)) (sym (cell_empty adds spec)) ∙ cell_merge adds spec [] rows rows (all_right rows) apart few
