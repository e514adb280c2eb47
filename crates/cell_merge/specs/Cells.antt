-- Cells: the words that summarise some rows, and how two cells are merged.
use Rattle.std.specs.Prelude.{ℕ, zero, suc, ◌+◌, ◌*◌, ◌%◌, ◌^◌, min, max, ◌==◌, if◌then◌else◌, List, [], ◌∷◌, ◌++◌, length, map, take, drop, replicate, slice_index}
use Rattle.std.specs.Prelude.{Option, None, Some}
use Rattle.std.specs.List.{sum_by, filter, flat_map, fold, range_with_len}
use Rattle.cell_merge.specs.declared.spec.CellItem.{CellItem}
use Rattle.cell_merge.specs.declared.spec.CellItem.TheVariants.{Count, Sum, Avg, Max, Min, TopK}
use Rattle.cell_merge.specs.declared.spec.CellSpec.{CellSpec}
use Rattle.spl_words.specs.Words.{plus}
use Rattle.cell_merge.specs.Rows.{Row, code}
use Rattle.cell_merge.specs.Entries.{in_order, entries_of, words_of, entry}

-- how many words an item has
abbrev pub item_width : CellItem → ℕ
item_width Count = 0
item_width (Sum c) = 1
item_width (Avg c) = 1
item_width (Max c) = 1
item_width (Min c) = 1
item_width (TopK k s h) = 3 * k

-- how many words several items have
unfoldable pub items_width : List CellItem → ℕ
items_width [] = 0
items_width (i ∷ is) = item_width i + items_width is

-- the greatest of some codes, or 0
unfoldable pub greatest : List ℕ → ℕ
greatest [] = 0
greatest (x ∷ xs) = max x (greatest xs)

-- the least of some codes, or 0 where there is none
unfoldable pub least : List ℕ → ℕ
least [] = 0
least (x ∷ []) = x
least (x ∷ y ∷ ys) = min x (least (y ∷ ys))

-- what a code of a column adds to a sum
abbrev pub Addends : Type 0
Addends = ℕ → ℕ → ℕ

-- what a row adds to the sum of a column
abbrev pub addend : Addends → ℕ → Row → ℕ
addend adds column r = adds column (code column r)

-- the words of one item for some rows
abbrev pub item_words : Addends → CellItem → List Row → List ℕ
item_words adds Count rows = []
item_words adds (Sum c) rows = sum_by (addend adds c) rows % 2 ^ 64 ∷ []
item_words adds (Avg c) rows = sum_by (addend adds c) rows % 2 ^ 64 ∷ []
item_words adds (Max c) rows = greatest (map (code c) rows) ∷ []
item_words adds (Min c) rows = least (map (code c) rows) ∷ []
item_words adds (TopK k s h) rows = words_of k (in_order (map (entry s h) rows))

-- the words of several items, one after the other
unfoldable pub items_words : Addends → List CellItem → List Row → List ℕ
items_words adds [] rows = []
items_words adds (i ∷ is) rows = item_words adds i rows ++ items_words adds is rows

-- the count of rows, and the words of the items
unfoldable pub block : Addends → List CellItem → List Row → List ℕ
block adds items rows = length rows ∷ items_words adds items rows

-- the word of the one cell that has rows, or the better of two
abbrev pub better : (ℕ → ℕ → ℕ) → ℕ → ℕ → ℕ → ℕ → ℕ
better pick m n a b = if m == 0 then (if n == 0 then 0 else b) else (if n == 0 then a else pick a b)

-- the merge of one item's words, of cells with counts m and n
abbrev pub merge_item : CellItem → ℕ → ℕ → List ℕ → List ℕ → List ℕ
merge_item Count m n a b = []
merge_item (Sum c) m n a b = plus (slice_index a 0) (slice_index b 0) ∷ []
merge_item (Avg c) m n a b = plus (slice_index a 0) (slice_index b 0) ∷ []
merge_item (Max c) m n a b = better max m n (slice_index a 0) (slice_index b 0) ∷ []
merge_item (Min c) m n a b = better min m n (slice_index a 0) (slice_index b 0) ∷ []
merge_item (TopK k s h) m n a b = words_of k (in_order (entries_of a ++ entries_of b))

-- the merge of the words of several items
unfoldable pub merge_items : List CellItem → ℕ → ℕ → List ℕ → List ℕ → List ℕ
merge_items [] m n a b = []
merge_items (i ∷ is) m n a b = merge_item i m n (take (item_width i) a) (take (item_width i) b) ++ merge_items is m n (drop (item_width i) a) (drop (item_width i) b)

-- the merge of two blocks: the counts add
unfoldable pub merge_block : List CellItem → List ℕ → List ℕ → List ℕ
merge_block items a b = plus (slice_index a 0) (slice_index b 0) ∷ merge_items items (slice_index a 0) (slice_index b 0) (drop 1 a) (drop 1 b)

-- the rows with one label in a column
abbrev pub with_label : ℕ → List Row → ℕ → List Row
with_label column rows label = filter (λ r. code column r == label) rows

-- the rows of each label, or all rows where no column groups them
abbrev pub groups : Option ℕ → ℕ → List Row → List (List Row)
groups None labels rows = rows ∷ []
groups (Some column) labels rows = map (with_label column rows) (range_with_len 0 labels)

-- how many blocks a cell has
abbrev pub blocks : Option ℕ → ℕ → ℕ
blocks None labels = 1
blocks (Some column) labels = labels

-- how many words a block has
abbrev pub block_width : List CellItem → ℕ
block_width items = 1 + items_width items

-- how many words a cell has
abbrev pub cell_width : CellSpec → ℕ
cell_width spec = blocks spec.group spec.labels * block_width spec.items

-- the cell of some rows: the block of each label, or one block
abbrev pub cell : Addends → CellSpec → List Row → List ℕ
cell adds spec rows = flat_map (block adds spec.items) (groups spec.group spec.labels rows)

-- the merge of n blocks
unfoldable pub merge_blocks : ℕ → List CellItem → List ℕ → List ℕ → List ℕ
merge_blocks zero items a b = []
merge_blocks (suc n) items a b = merge_block items (take (block_width items) a) (take (block_width items) b) ++ merge_blocks n items (drop (block_width items) a) (drop (block_width items) b)

-- the merge of two cells, for any words
abbrev pub merge : CellSpec → List ℕ → List ℕ → List ℕ
merge spec a b = merge_blocks (blocks spec.group spec.labels) spec.items a b

-- the cell of no rows
abbrev pub empty_cell : CellSpec → List ℕ
empty_cell spec = replicate (cell_width spec) 0

-- the merge of a list of cells, from the front
abbrev pub merge_all : CellSpec → List (List ℕ) → List ℕ
merge_all spec cells = fold (merge spec) (empty_cell spec) cells
