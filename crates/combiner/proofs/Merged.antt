-- The merge of cells of good words can be read.
use Rattle.std.proofs.Common.{◌≡◌, ◌≢◌, ℕ, zero, suc, ◌+◌, ◌*◌, ◌<◌, ◌≤◌, max, min, Bool, true, false, cond, eqb, List, [], ◌∷◌, ◌++◌, length, take, drop, replicate, slice_index, slice_get, get_or, Some, Ok, refl, sym, ap, subst, ◌∙◌, inl, inr, arith, IsTrue}
use Rattle.std.specs.Prelude.{All}
use Rattle.std.specs.List.{AllByRecursion, flat_map, fold}
use Rattle.std.proofs.lemmas.Bool.{cases_lt, eqb-false, leb-true, le-leb}
use Rattle.std.proofs.lemmas.List.{drop_at, length-drop, length-replicate, length-take-le, replicate-append-replicate, take-append-drop, take_at}
use Rattle.std.proofs.lemmas.List.Elements.{recursion_from_All}
use Rattle.std.proofs.lemmas.Option.{slice_get-get_or}
use Rattle.std.proofs.Math.Nat.{zero-mul}
use Rattle.spl_values.specs.Kinds.{is_kind}
use Rattle.spl_values.specs.Shapes.{ColumnParts, IsColumn, ShapeParts, IsShape}
use Rattle.spl_values.specs.declared.kinds.ColumnType.TheVariants.{Uint}
use Rattle.cell_merge.specs.declared.entry.Entry.{Entry}
use Rattle.cell_merge.specs.declared.spec.CellItem.{CellItem}
use Rattle.cell_merge.specs.declared.spec.CellItem.TheVariants.{Count, Sum, Avg, Max, Min, TopK}
use Rattle.cell_merge.specs.declared.spec.CellSpec.{CellSpec}
use Rattle.cell_merge.specs.Entries.{entries_of, in_order, words_of}
use Rattle.cell_merge.specs.Cells.{better, block_width, blocks, cell_width, empty_cell, item_width, merge, merge_all, merge_block, merge_blocks, merge_item, merge_items}
use Rattle.cell_merge.specs.TableRows.{HasColumns, SpecFits, kind_in}
use Rattle.cell_merge.proofs.Blocks.{length-merge_block, length-merge_item}
use Rattle.cell_merge.proofs.Lists.{each-take}
use Rattle.cell_merge.proofs.Sorting.{each-in_order}
use Rattle.cell_merge.proofs.Words.{entries_of-words_of}
use Rattle.clear_sql.specs.CellAnswers.{IsCode, EntryReads, ItemReads, ItemsRead, BlocksRead}
use Rattle.clear_sql.proofs.GoodCells.{zero_code}
use Rattle.combiner.specs.declared.checking.WordKind.{WordKind}
use Rattle.combiner.specs.declared.checking.WordKind.TheVariants as kind
use Rattle.combiner.specs.GoodWords.{block_kinds, good_words, item_kinds}
use Rattle.combiner.specs.Finals.{cells_in}
use Rattle.combiner.proofs.Codes.{code_reads, zero_told}
use Rattle.combiner.proofs.Cuts.{no_more, one_more}
use Rattle.combiner.proofs.WordKinds.{InColumns, each-append, items_in_columns, length-item_kinds, length-block_kinds, top_kinds}
use Rattle.combiner.proofs.Plans.{cell_some}
use Rattle.combiner.proofs.Good.{EachGood, good_behind, good_block, good_first, parts_good}

-- the types of columns
abbrev pub Typed : List ColumnParts → Type 0
Typed columns = (i : ℕ) → i < length columns → IsTrue (is_kind (kind_in columns i))

pub typed_columns : (columns : List ColumnParts) → All IsColumn columns → Typed columns
typed_columns columns all i h =
    let none : ColumnParts = record { name = []; kind = Uint 0 } in
    let here : slice_get columns i ≡ Some (get_or columns i none) = slice_get-get_or columns i none h in
    rw here (all i none h).typed

-- ---- one of two

pub max_one : (P : ℕ → Type 0) (a b : ℕ) → P a → P b → P (max a b)
max_one P a b p q = elim (cases_lt a b) [ inl h ↦ (let e : max a b ≡ b = omega arith in subst P (sym e) q) | inr h ↦ (let e : max a b ≡ a = omega arith in subst P (sym e) p) ]

pub min_one : (P : ℕ → Type 0) (a b : ℕ) → P a → P b → P (min a b)
min_one P a b p q = elim (cases_lt a b) [ inl h ↦ (let e : min a b ≡ a = omega arith in subst P (sym e) p) | inr h ↦ (let e : min a b ≡ b = omega arith in subst P (sym e) q) ]

better_one : (P : ℕ → Type 0) (pick : ℕ → ℕ → ℕ) (m n a b : ℕ) → P 0 → P a → P b → P (pick a b) → P (better pick m n a b)
better_one P pick m n a b z p q r = by_counts (eqb m 0) (eqb n 0)
  where
    by_counts : (s t : Bool) → P (cond s (cond t 0 b) (cond t a (pick a b)))
    by_counts true true = z
    by_counts true false = q
    by_counts false true = p
    by_counts false false = r

-- ---- entries

used_step : (t : Bool) (e : Entry) (l : List Entry) → eqb e.place 0 ≡ t → AllByRecursion (λ x. x.place ≢ 0) l → AllByRecursion (λ x. x.place ≢ 0) (cond t l (e ∷ l))
used_step true e l is h = h
used_step false e l is h = (eqb-false e.place 0 is, h)

used_entries : (ws : List ℕ) → AllByRecursion (λ (x : Entry). x.place ≢ 0) (entries_of ws)
unfolding entries_of
used_entries [] = tt
used_entries (x ∷ []) = tt
used_entries (x ∷ y ∷ []) = tt
used_entries (x ∷ y ∷ z ∷ ws) = used_step (eqb x 0) (record { place = x; sort = y; show = z }) (entries_of ws) refl (used_entries ws)

merged_entries : (k : ℕ) (a b : List ℕ) → entries_of (words_of k (in_order (entries_of a ++ entries_of b))) ≡ take k (in_order (entries_of a ++ entries_of b))
merged_entries k a b =
    entries_of-words_of k (in_order (entries_of a ++ entries_of b))
    (each-in_order (λ x. x.place ≢ 0) (entries_of a ++ entries_of b) (each-append (λ (x : Entry). x.place ≢ 0) (entries_of a) (entries_of b) (used_entries a) (used_entries b)))

module _ (columns : List ColumnParts) (typed : Typed columns) where
  -- ---- merges can be read

  item_read : (i : CellItem) (m n : ℕ) (a b : List ℕ) → HasColumns columns i → ItemReads columns i a → ItemReads columns i b → ItemReads columns i (merge_item i m n a b)
  item_read Count m n a b has p q = tt
  item_read (Sum c) m n a b has p q = tt
  item_read (Avg c) m n a b has p q = tt
  item_read (Max c) m n a b has p q =
      let P = IsCode (kind_in columns c) in
      better_one P max m n (slice_index a 0) (slice_index b 0) (zero_code (kind_in columns c) (typed c has)) p q (max_one P (slice_index a 0) (slice_index b 0) p q)
  item_read (Min c) m n a b has p q =
      let P = IsCode (kind_in columns c) in
      better_one P min m n (slice_index a 0) (slice_index b 0) (zero_code (kind_in columns c) (typed c has)) p q (min_one P (slice_index a 0) (slice_index b 0) p q)
  item_read (TopK k s h) m n a b has p q =
      let P = EntryReads columns s h in
      let both = each-append P (entries_of a) (entries_of b) p q in
      let best = each-take P k (in_order (entries_of a ++ entries_of b)) (each-in_order P (entries_of a ++ entries_of b) both) in
      subst (AllByRecursion P) (sym (merged_entries k a b)) best

  items_read : (is : List CellItem) (m n : ℕ) (a b : List ℕ) → AllByRecursion (HasColumns columns) is → ItemsRead columns is a → ItemsRead columns is b → ItemsRead columns is (merge_items is m n a b)
  unfolding ItemsRead merge_items
  items_read [] m n a b has p q = tt
  items_read (i ∷ is) m n a b has p q =
      let w = item_width i in
      let one = merge_item i m n (take w a) (take w b) in
      let rest = merge_items is m n (drop w a) (drop w b) in
      let len = length-merge_item i m n (take w a) (take w b) in
      rw (take_at one rest w len, drop_at one rest w len)
      (item_read i m n (take w a) (take w b) has.0 p.0 q.0, items_read is m n (drop w a) (drop w b) has.1 p.1 q.1)

  block_read : (is : List CellItem) (a b : List ℕ) → AllByRecursion (HasColumns columns) is → ItemsRead columns is (drop 1 a) → ItemsRead columns is (drop 1 b) → ItemsRead columns is (drop 1 (merge_block is a b))
  unfolding merge_block
  block_read is a b has p q = items_read is (slice_index a 0) (slice_index b 0) (drop 1 a) (drop 1 b) has p q

  pub merge_read : (is : List CellItem) (n : ℕ) (a b : List ℕ) → AllByRecursion (HasColumns columns) is → BlocksRead columns is n a → BlocksRead columns is n b → BlocksRead columns is n (merge_blocks n is a b)
  unfolding BlocksRead merge_blocks
  merge_read is zero a b has p q = tt
  merge_read is (suc n) a b has p q =
      let w = block_width is in
      let one = merge_block is (take w a) (take w b) in
      let rest = merge_blocks n is (drop w a) (drop w b) in
      let len = length-merge_block is (take w a) (take w b) in
      rw (take_at one rest w len, drop_at one rest w len)
      (block_read is (take w a) (take w b) has p.0 q.0, merge_read is n (drop w a) (drop w b) has p.1 q.1)

  -- ---- good words can be read

  module _ (rows : ℕ) (few : rows ≤ 262144) where
    entry_step : (s h : ℕ) (t : Bool) (e : Entry) (l : List Entry) → EntryReads columns s h e → AllByRecursion (EntryReads columns s h) l → AllByRecursion (EntryReads columns s h) (cond t l (e ∷ l))
    entry_step s h true e l p q = q
    entry_step s h false e l p q = (p, q)

    entries_read : (s h l k : ℕ) (ws : List ℕ) → s < length columns → h < length columns → EachGood columns rows (top_kinds s h l k) ws → AllByRecursion (EntryReads columns s h) (entries_of ws)
    unfolding entries_of
    entries_read s h l zero [] a b good = tt
    entries_read s h l zero (x ∷ ws) a b good = absurd good
    entries_read s h l (suc k) [] a b good = absurd good
    entries_read s h l (suc k) (x ∷ []) a b good = absurd good.1
    entries_read s h l (suc k) (x ∷ y ∷ []) a b good = absurd good.1.1
    entries_read s h l (suc k) (x ∷ y ∷ z ∷ ws) a b good =
        let place = leb-true x rows good.0 in
        let entry : EntryReads columns s h (record { place = x; sort = y; show = z }) =
        record {
          row = omega (arith, place, few);
          sort_code = code_reads (kind_in columns s) y (typed s a) good.1.0;
          show_code = code_reads (kind_in columns h) z (typed h b) good.1.1.0;
        } in
        entry_step s h (eqb x 0) (record { place = x; sort = y; show = z }) (entries_of ws) entry (entries_read s h (l + 1) k ws a b good.1.1.1)

    item_reads : (i : CellItem) (ws : List ℕ) → HasColumns columns i → EachGood columns rows (item_kinds i) ws → ItemReads columns i ws
    item_reads Count ws has good = tt
    item_reads (Sum c) ws has good = tt
    item_reads (Avg c) ws has good = tt
    item_reads (Max c) [] has good = absurd good
    item_reads (Max c) (w ∷ ws) has good = code_reads (kind_in columns c) w (typed c has) good.0
    item_reads (Min c) [] has good = absurd good
    item_reads (Min c) (w ∷ ws) has good = code_reads (kind_in columns c) w (typed c has) good.0
    item_reads (TopK k s h) ws has good = entries_read s h 0 k ws has.0 has.1 good

    items_reads : (is : List CellItem) (ws : List ℕ) → AllByRecursion (HasColumns columns) is → EachGood columns rows (flat_map item_kinds is) ws → ItemsRead columns is ws
    unfolding ItemsRead
    items_reads [] ws has good = tt
    items_reads (i ∷ is) ws has good =
        let parts = rw (length-item_kinds i) at (parts_good columns rows (item_kinds i) (flat_map item_kinds is) ws good) in
        (item_reads i (take (item_width i) ws) has.0 parts.0, items_reads is (drop (item_width i) ws) has.1 parts.1)

    block_reads : (is : List CellItem) (ws : List ℕ) → AllByRecursion (HasColumns columns) is → EachGood columns rows (block_kinds is) ws → ItemsRead columns is (drop 1 ws)
    block_reads is [] has good = absurd good
    block_reads is (w ∷ ws) has good = items_reads is ws has good.1

    -- so many blocks of good words
    blocks_reads : (is : List CellItem) (i n : ℕ) (ws : List ℕ) → AllByRecursion (HasColumns columns) is → length ws ≡ n * block_width is → good_words columns is rows (i * block_width is) ws ≡ Ok tt → BlocksRead columns is n ws
    unfolding BlocksRead
    blocks_reads is i zero ws has len good = tt
    blocks_reads is i (suc n) ws has len good =
        let w = block_width is in
        let a = take w ws in
        let b = drop w ws in
        let split : a ++ b ≡ ws = take-append-drop w ws in
        let all : good_words columns is rows (i * w) (a ++ b) ≡ Ok tt = rw split good in
        let first : length a ≡ w = length-take-le w ws (omega (arith, len)) in
        let rest : length b ≡ n * w = omega (arith, length-drop w ws, len) in
        let next : i * w + length a ≡ (i + 1) * w = omega (arith, first) in
        let more : good_words columns is rows ((i + 1) * w) b ≡ Ok tt = ap (λ (p : ℕ). good_words columns is rows p b) (sym next) ∙ good_behind columns is rows (i * w) a b all in
        (block_reads is a has (good_block columns is rows i a first (good_first columns is rows (i * w) a b all)), blocks_reads is (i + 1) n b has rest more)

    -- ---- no rows

    zeros_good : (ks : List WordKind) → AllByRecursion (InColumns columns) ks → EachGood columns rows ks (replicate (length ks) 0)
    zeros_good [] has = tt
    zeros_good (kind.Rows ∷ ks) has = (le-leb 0 rows (omega arith), zeros_good ks has.1)
    zeros_good (kind.Code c ∷ ks) has = (zero_told (kind_in columns c) (typed c has.0), zeros_good ks has.1)
    zeros_good (kind.Sum ∷ ks) has = (refl, zeros_good ks has.1)

    zero_block : (is : List CellItem) → AllByRecursion (HasColumns columns) is → ItemsRead columns is (drop 1 (replicate (block_width is) 0))
    zero_block is has =
        let zeros : EachGood columns rows (block_kinds is) (replicate (length (block_kinds is)) 0) = zeros_good (block_kinds is) (tt, items_in_columns columns is has) in
        block_reads is (replicate (block_width is) 0) has (subst (λ n. EachGood columns rows (block_kinds is) (replicate n 0)) (length-block_kinds is) zeros)

    pub empty_read : (is : List CellItem) (n : ℕ) → AllByRecursion (HasColumns columns) is → BlocksRead columns is n (replicate (n * block_width is) 0)
    unfolding BlocksRead
    empty_read is zero has = tt
    empty_read is (suc n) has =
        let w = block_width is in
        let zeros : List ℕ = replicate w 0 in
        let rest : List ℕ = replicate (n * w) 0 in
        let first : length zeros ≡ w = length-replicate w 0 in
        let sum : w + n * w ≡ suc n * w = omega arith in
        let parts : zeros ++ rest ≡ replicate (suc n * w) 0 = replicate-append-replicate w (n * w) 0 ∙ ap (λ k. replicate k 0) sum in
        let all : BlocksRead columns is (suc n) (zeros ++ rest) = rw (take_at zeros rest w first, drop_at zeros rest w first) (zero_block is has, empty_read is n has) in
        subst (BlocksRead columns is (suc n)) parts all

    -- ---- all cells

    pub merged_read : (spec : CellSpec) (m i : ℕ) (ws into : List ℕ) → AllByRecursion (HasColumns columns) spec.items → 0 < cell_width spec → length ws ≡ m * cell_width spec
        → good_words columns spec.items rows (i * block_width spec.items) ws ≡ Ok tt → BlocksRead columns spec.items (blocks spec.group spec.labels) into
        → BlocksRead columns spec.items (blocks spec.group spec.labels) (fold (merge spec) into (cells_in (cell_width spec) ws))
    merged_read spec zero i ws into has some len good read = rw (no_more (cell_width spec) ws (omega (arith, len, some))) read
    merged_read spec (suc m) i ws into has some len good read =
        let w = cell_width spec in
        let n = blocks spec.group spec.labels in
        let u = block_width spec.items in
        let a = take w ws in
        let b = drop w ws in
        let split : a ++ b ≡ ws = take-append-drop w ws in
        let all : good_words columns spec.items rows (i * u) (a ++ b) ≡ Ok tt = rw split good in
        let first : length a ≡ w = length-take-le w ws (omega (arith, len)) in
        let rest : length b ≡ m * w = omega (arith, length-drop w ws, len) in
        let next : i * u + length a ≡ (i + n) * u = omega (arith, first) in
        let more : good_words columns spec.items rows ((i + n) * u) b ≡ Ok tt = ap (λ (p : ℕ). good_words columns spec.items rows p b) (sym next) ∙ good_behind columns spec.items rows (i * u) a b all in
        let cell : BlocksRead columns spec.items n a = blocks_reads spec.items i n a has first (good_first columns spec.items rows (i * u) a b all) in
        let cells : cells_in w ws ≡ a ∷ cells_in w b = ap (cells_in w) (sym split) ∙ one_more w a b some first in
        rw cells (merged_read spec m (i + n) b (merge spec into a) has some rest more (merge_read spec.items n into a has read cell))

-- the merge of all cells in good words can be read
pub words_read : (spec : CellSpec) (shape : ShapeParts) (words : List ℕ) → IsShape shape → SpecFits spec shape.schema.columns → good_words shape.schema.columns spec.items shape.rows 0 words ≡ Ok tt
    → (cells : ℕ) × (length words ≡ cells * cell_width spec) → BlocksRead shape.schema.columns spec.items (blocks spec.group spec.labels) (merge_all spec (cells_in (cell_width spec) words))
words_read spec shape words is fits good whole =
    let columns = shape.schema.columns in
    let typed = typed_columns columns is.schema.columns in
    let has = recursion_from_All (HasColumns columns) spec.items fits.present in
    let first : 0 * block_width spec.items ≡ 0 = zero-mul (block_width spec.items) in
    let all : good_words columns spec.items shape.rows (0 * block_width spec.items) words ≡ Ok tt = ap (λ (p : ℕ). good_words columns spec.items shape.rows p words) first ∙ good in
    merged_read columns typed shape.rows is.few spec whole.0 0 words (empty_cell spec) has (cell_some spec columns is.schema.columns fits) whole.1 all
    (empty_read columns typed shape.rows is.few spec.items (blocks spec.group spec.labels) has)
