-- The words of the cells of a table's rows are words.
use Rattle.std.proofs.Common.{ℕ, zero, suc, ◌+◌, ◌^◌, ◌<◌, ◌≤◌, Bool, eqb, List, [], ◌∷◌, ◌++◌, length, Option, None, Some, arith}
use Rattle.std.specs.Prelude.{All, map, slice_index}
use Rattle.std.specs.List.{AllByRecursion, filter, flat_map, range_with_len}
use Rattle.std.proofs.Math.Nat.{pow-le-pow_right}
use Rattle.std.proofs.lemmas.List.Elements.{All-head, All-tail}
use Rattle.std.proofs.lemmas.Nat.{pow_pos}
use Rattle.spl_values.specs.Shapes.{ColumnParts}
use Rattle.spl_values.specs.Tables.{TableParts, IsTable, column_bits}
use Rattle.cell_merge.specs.declared.entry.Entry.{Entry}
use Rattle.cell_merge.specs.Entries.{entry, in_order, words_of}
use Rattle.cell_merge.specs.Rows.{Row, code}
use Rattle.cell_merge.specs.Cells.{Addends, block, cell, greatest, groups, item_words, items_words, least, with_label}
use Rattle.cell_merge.specs.TableRows.{KeepsWords, rows_of}
use Rattle.cell_merge.specs.declared.spec.CellItem.{CellItem}
use Rattle.cell_merge.specs.declared.spec.CellItem.TheVariants.{Count, Sum, Avg, Max, Min, TopK}
use Rattle.cell_merge.specs.declared.spec.CellSpec.{CellSpec}
use Rattle.cell_merge.proofs.Lists.{each-filter, length-filter-le}
use Rattle.cell_merge.proofs.Sorting.{each-in_order}
use Rattle.session_model.proofs.TableRows.{each_row, row_codes}

-- they are words, each below 2^64
abbrev pub AreWords : List ℕ → Type 0
AreWords words = AllByRecursion (λ w. w < 2 ^ 64) words

pub words_both : (xs ys : List ℕ) → AreWords xs → AreWords ys → AreWords (xs ++ ys)
words_both [] ys a b = b
words_both (x ∷ xs) ys a b = (a.0, words_both xs ys a.1 b)

pub word_small : (words : List ℕ) (k : ℕ) → AreWords words → k < length words → slice_index words k < 2 ^ 64
word_small [] k are here = absurd (omega (arith, here))
word_small (w ∷ ws) zero are here = are.0
word_small (w ∷ ws) (suc k) are here = word_small ws k are.1 (omega (arith, here))

-- ---- greatest and least codes, and entries

greatest_small : (xs : List ℕ) → AreWords xs → greatest xs < 2 ^ 64
unfolding greatest
greatest_small [] h = omega arith
greatest_small (x ∷ xs) h = let rest = greatest_small xs h.1 in omega (arith, h.0)

least_small : (xs : List ℕ) → AreWords xs → least xs < 2 ^ 64
unfolding least
least_small [] h = omega arith
least_small (x ∷ []) h = h.0
least_small (x ∷ y ∷ ys) h = let rest = least_small (y ∷ ys) h.1 in omega (arith, h.0)

-- an entry of three words
record IsEntry (x : Entry) : Type 0 where
  pub place : x.place < 2 ^ 64
  pub sort : x.sort < 2 ^ 64
  pub show : x.show < 2 ^ 64

entries_small : (k : ℕ) (xs : List Entry) → AllByRecursion IsEntry xs → AreWords (words_of k xs)
unfolding words_of
entries_small zero xs h = tt
entries_small (suc k) [] h = (omega arith, (omega arith, (omega arith, entries_small k [] tt)))
entries_small (suc k) (x ∷ xs) h = (h.0.place, (h.0.sort, (h.0.show, entries_small k xs h.1)))

-- ---- rows of a table

-- a row whose code at each column has no more than the column's bits, of a table of fewer than 2^32 rows
pub record IsRowOf (columns : List ColumnParts) (r : Row) : Type 0 where
  pub codes : (c : ℕ) → code c r < 2 ^ column_bits columns c
  pub number : r.number + 1 < 2 ^ 64

word_code : (columns : List ColumnParts) (c : ℕ) (r : Row) → IsRowOf columns r → column_bits columns c ≤ 64 → code c r < 2 ^ 64
word_code columns c r row narrow =
    let small = row.codes c in
    let more : 2 ^ column_bits columns c ≤ 2 ^ 64 = pow-le-pow_right (pow_pos 1) narrow in
    omega (arith, small, more)

module _ (columns : List ColumnParts) where
  codes_small : (c : ℕ) → column_bits columns c ≤ 64 → (rows : List Row) → AllByRecursion (IsRowOf columns) rows → AreWords (map (code c) rows)
  codes_small c narrow [] h = tt
  codes_small c narrow (r ∷ rows) h = (word_code columns c r h.0 narrow, codes_small c narrow rows h.1)

  entries_of_rows : (s w : ℕ) → column_bits columns s ≤ 64 → column_bits columns w ≤ 64 → (rows : List Row) → AllByRecursion (IsRowOf columns) rows → AllByRecursion IsEntry (map (entry s w) rows)
  entries_of_rows s w a b [] h = tt
  entries_of_rows s w a b (r ∷ rows) h = (record { place = h.0.number; sort = word_code columns s r h.0 a; show = word_code columns w r h.0 b }, entries_of_rows s w a b rows h.1)

  -- rows of the table, fewer than 2^64
  abbrev pub FewRows : List Row → Type 0
  FewRows rows = AllByRecursion (IsRowOf columns) rows × (length rows < 2 ^ 64)

  pub filter_few : (p : Row → Bool) (rows : List Row) → FewRows rows → FewRows (filter p rows)
  filter_few p rows h = let short = length-filter-le p rows in (each-filter (IsRowOf columns) p rows h.0, omega (arith, short, h.1))

  labels_few : (c : ℕ) (rows : List Row) → FewRows rows → (labels : List ℕ) → AllByRecursion FewRows (map (with_label c rows) labels)
  labels_few c rows h [] = tt
  labels_few c rows h (l ∷ ls) = (filter_few (λ r. eqb (code c r) l) rows h, labels_few c rows h ls)

  groups_few : (g : Option ℕ) (labels : ℕ) (rows : List Row) → FewRows rows → AllByRecursion FewRows (groups g labels rows)
  groups_few None labels rows h = (h, tt)
  groups_few (Some c) labels rows h = labels_few c rows h (range_with_len 0 labels)

  module _ (adds : Addends) where
    item_small : (i : CellItem) (rows : List Row) → KeepsWords columns i → AllByRecursion (IsRowOf columns) rows → AreWords (item_words adds i rows)
    item_small Count rows keeps each = tt
    item_small (Sum c) rows keeps each = (omega arith, tt)
    item_small (Avg c) rows keeps each = (omega arith, tt)
    item_small (Max c) rows keeps each = (greatest_small (map (code c) rows) (codes_small c keeps rows each), tt)
    item_small (Min c) rows keeps each = (least_small (map (code c) rows) (codes_small c keeps rows each), tt)
    item_small (TopK k s w) rows keeps each = entries_small k (in_order (map (entry s w) rows)) (each-in_order IsEntry (map (entry s w) rows) (entries_of_rows s w keeps.0 keeps.1 rows each))

    items_small : (is : List CellItem) (rows : List Row) → All (KeepsWords columns) is → AllByRecursion (IsRowOf columns) rows → AreWords (items_words adds is rows)
    unfolding items_words
    items_small [] rows keeps each = tt
    items_small (i ∷ is) rows keeps each =
        words_both (item_words adds i rows) (items_words adds is rows) (item_small i rows (All-head (KeepsWords columns) i is keeps) each) (items_small is rows (All-tail (KeepsWords columns) i is keeps) each)

    blocks_small : (is : List CellItem) → All (KeepsWords columns) is → (gs : List (List Row)) → AllByRecursion FewRows gs → AreWords (flat_map (block adds is) gs)
    unfolding block
    blocks_small is keeps [] h = tt
    blocks_small is keeps (g ∷ gs) h = words_both (block adds is g) (flat_map (block adds is) gs) (h.0.1, items_small is g keeps h.0.0) (blocks_small is keeps gs h.1)

    pub cell_small : (spec : CellSpec) (rows : List Row) → All (KeepsWords columns) spec.items → FewRows rows → AreWords (cell adds spec rows)
    cell_small spec rows keeps h = blocks_small spec.items keeps (groups spec.group spec.labels rows) (groups_few spec.group spec.labels rows h)

-- ---- the rows of a valid table

module _ (t : TableParts) (valid : IsTable t) where
  pub rows_are : AllByRecursion (IsRowOf t.shape.schema.columns) (rows_of t)
  rows_are =
      each_row t valid (IsRowOf t.shape.schema.columns)
      (λ n h. record { codes = λ c. (row_codes t valid (c ∷ []) n h).0; number = omega (arith, h, valid.count, valid.shape.few) })
