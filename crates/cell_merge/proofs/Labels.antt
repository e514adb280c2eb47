-- The merge of cells, label by label.
use Rattle.std.proofs.Common.{◌≡◌, ◌≢◌, ℕ, zero, suc, ◌+◌, ◌^◌, ◌<◌, Bool, true, false, ◌||◌, cond, eqb, List, [], ◌∷◌, ◌++◌, length, map, Option, None, Some, refl, ap, ◌∙◌, arith, length-append}
use Rattle.std.specs.List.{filter, flat_map, range_with_len, AllByRecursion}
use Rattle.std.proofs.lemmas.List.{take_at, drop_at}
use Rattle.cell_merge.specs.declared.spec.CellItem.{CellItem}
use Rattle.cell_merge.specs.declared.spec.CellSpec.{CellSpec}
use Rattle.cell_merge.specs.Rows.{Row, Interleaves, Apart, code}
use Rattle.cell_merge.specs.Cells.{Addends, items_width, item_words, items_words, block, block_width, merge_blocks, with_label, groups, blocks, cell, merge}
use Rattle.cell_merge.proofs.Lists.{each-filter, length-filter-le, Interleaves-filter, Interleaves-parts}
use Rattle.cell_merge.proofs.Merging.{block_merge, length-item_words}

apart_step : (t : Bool) (r : Row) (l : List Row) → AllByRecursion (λ s. r.number ≢ s.number) l → Apart l → Apart (cond t (r ∷ l) l)
apart_step true r l a h = (a, h)
apart_step false r l a h = h

pub Apart-filter : (p : Row → Bool) (l : List Row) → Apart l → Apart (filter p l)
Apart-filter p [] h = tt
Apart-filter p (r ∷ l) h = apart_step (p r) r (filter p l) (each-filter (λ s. r.number ≢ s.number) p l h.0) (Apart-filter p l h.1)

module _ (adds : Addends) where
  pub length-items_words : (is : List CellItem) (rows : List Row) → length (items_words adds is rows) ≡ items_width is
  unfolding items_words items_width
  length-items_words [] rows = refl
  length-items_words (i ∷ is) rows =
      let e = length-append (item_words adds i rows) (items_words adds is rows) in
      let f = length-item_words adds i rows in
      let g = length-items_words is rows in
      omega arith

  pub length-block : (is : List CellItem) (rows : List Row) → length (block adds is rows) ≡ block_width is
  unfolding block
  length-block is rows = let e = length-items_words is rows in omega arith

  labels_merge : (is : List CellItem) (column : ℕ) (a b c : List Row) → Interleaves a b c → Apart c → length c < 2 ^ 64 → (l n : ℕ)
      → merge_blocks n is (flat_map (block adds is) (map (with_label column a) (range_with_len l n))) (flat_map (block adds is) (map (with_label column b) (range_with_len l n)))
      ≡ flat_map (block adds is) (map (with_label column c) (range_with_len l n))
  unfolding merge_blocks
  labels_merge is column a b c i d m l zero = refl
  labels_merge is column a b c i d m l (suc n) =
      let p : Row → Bool = λ r. eqb (code column r) l in
      let rest = λ (x : List Row). flat_map (block adds is) (map (with_label column x) (range_with_len (l + 1) n)) in
      let fits : length (filter p c) < 2 ^ 64 = let h = length-filter-le p c in omega arith in
      rw (take_at (block adds is (filter p a)) (rest a) (block_width is) (length-block is (filter p a)), take_at (block adds is (filter p b)) (rest b) (block_width is) (length-block is (filter p b)), drop_at (block adds is (filter p a)) (rest a) (block_width is) (length-block is (filter p a)), drop_at (block adds is (filter p b)) (rest b) (block_width is) (length-block is (filter p b)))
      (ap (λ r. r ++ merge_blocks n is (rest a) (rest b)) (block_merge adds is (filter p a) (filter p b) (filter p c) (Interleaves-filter p a b c i) (Apart-filter p c d) fits)
      ∙ ap (λ r. block adds is (filter p c) ++ r) (labels_merge is column a b c i d m (l + 1) n))

  one_merge : (is : List CellItem) (a b c : List Row) → Interleaves a b c → Apart c → length c < 2 ^ 64
      → merge_blocks 1 is (block adds is a ++ []) (block adds is b ++ []) ≡ block adds is c ++ []
  unfolding merge_blocks
  one_merge is a b c i d m =
      rw (take_at (block adds is a) [] (block_width is) (length-block is a), take_at (block adds is b) [] (block_width is) (length-block is b))
      (ap (λ r. r ++ []) (block_merge adds is a b c i d m))

  groups_merge : (g : Option ℕ) (labels : ℕ) (is : List CellItem) (a b c : List Row) → Interleaves a b c → Apart c → length c < 2 ^ 64
      → merge_blocks (blocks g labels) is (flat_map (block adds is) (groups g labels a)) (flat_map (block adds is) (groups g labels b)) ≡ flat_map (block adds is) (groups g labels c)
  groups_merge None labels is a b c i d m = one_merge is a b c i d m
  groups_merge (Some column) labels is a b c i d m = labels_merge is column a b c i d m 0 labels

  pub cell_merge : (spec : CellSpec) (a b c : List Row) → Interleaves a b c → Apart c → length c < 2 ^ 64
      → merge spec (cell adds spec a) (cell adds spec b) ≡ cell adds spec c
  cell_merge spec a b c i d m = groups_merge spec.group spec.labels spec.items a b c i d m

  pub cell_merge_picked : (spec : CellSpec) (p q : Row → Bool) (rows : List Row) → ((r : Row) → p r ≡ true → q r ≡ false) → Apart rows → length rows < 2 ^ 64
      → merge spec (cell adds spec (filter p rows)) (cell adds spec (filter q rows)) ≡ cell adds spec (filter (λ r. p r || q r) rows)
  cell_merge_picked spec p q rows h d m =
      let t : Row → Bool = λ r. p r || q r in
      let fits : length (filter t rows) < 2 ^ 64 = let e = length-filter-le t rows in omega arith in
      cell_merge spec (filter p rows) (filter q rows) (filter t rows) (Interleaves-parts p q h rows) (Apart-filter t rows d) fits
