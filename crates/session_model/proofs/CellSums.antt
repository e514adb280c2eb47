-- Cells of counts and sums add word by word.
use Rattle.std.proofs.Common.{◌≡◌, ◌≢◌, ℕ, zero, suc, ◌+◌, ◌*◌, ◌%◌, ◌^◌, ◌<◌, Bool, true, false, cond, List, [], ◌∷◌, ◌++◌, length, take, drop, Option, Some, None, refl, sym, ap, ◌∙◌, arith, length-take}
use Rattle.std.specs.Prelude.{replicate, slice_index, sum_by}
use Rattle.std.specs.List.{filter, flat_map, list_all, range_with_len}
use Rattle.std.proofs.lemmas.List.{length-append, length-map, length-drop}
use Rattle.std.proofs.lemmas.List.FromFn.{length-range_with_len}
use Rattle.std.proofs.lemmas.List.Sums.{sum_by-cons}
use Rattle.std.proofs.Math.Nat.{add-mul, zero-mul}
use Rattle.spl_words.specs.Words.{plus}
use Rattle.cell_merge.specs.Rows.{Row, Apart, Interleaves}
use Rattle.cell_merge.specs.Rows.Interleaves.{none, left, right}
use Rattle.cell_merge.specs.Cells.{Addends, cell, cell_width, block, block_width, items_width, groups, blocks, with_label, merge_items, merge_block, merge_blocks}
use Rattle.cell_merge.specs.declared.spec.CellItem.{CellItem}
use Rattle.cell_merge.specs.declared.spec.CellItem.TheVariants.{Count, Sum, Avg, Max, Min, TopK}
use Rattle.cell_merge.specs.declared.spec.CellSpec.{CellSpec}
use Rattle.cell_merge.proofs.Labels.{cell_merge, length-block, Apart-filter}
use Rattle.cell_merge.proofs.All.{cell_empty}
use Rattle.cell_merge.proofs.Lists.{length-filter-le, each-filter}
use Rattle.private_plan.specs.Plans.{is_sum}

-- words added place by place
abbrev pub wordwise : List ℕ → List ℕ → List ℕ
wordwise (x ∷ xs) (y ∷ ys) = plus x y ∷ wordwise xs ys
wordwise _ _ = []

items_add : (is : List CellItem) (m n : ℕ) (a b : List ℕ) → list_all is_sum is ≡ true → length a ≡ items_width is → length b ≡ items_width is → merge_items is m n a b ≡ wordwise a b
unfolding merge_items items_width
items_add [] m n [] b s la lb = refl
items_add [] m n (x ∷ xs) b s la lb = absurd (omega (arith, la))
items_add (Count ∷ is) m n a b s la lb = items_add is m n a b s (omega (arith, la)) (omega (arith, lb))
items_add (Sum c ∷ is) m n [] b s la lb = absurd (omega (arith, la))
items_add (Sum c ∷ is) m n (x ∷ xs) [] s la lb = absurd (omega (arith, lb))
items_add (Sum c ∷ is) m n (x ∷ xs) (y ∷ ys) s la lb = ap (λ l. plus x y ∷ l) (items_add is m n xs ys s (omega (arith, la)) (omega (arith, lb)))
items_add (Avg c ∷ is) m n [] b s la lb = absurd (omega (arith, la))
items_add (Avg c ∷ is) m n (x ∷ xs) [] s la lb = absurd (omega (arith, lb))
items_add (Avg c ∷ is) m n (x ∷ xs) (y ∷ ys) s la lb = ap (λ l. plus x y ∷ l) (items_add is m n xs ys s (omega (arith, la)) (omega (arith, lb)))
items_add (Max c ∷ is) m n a b s la lb = absurd cc
items_add (Min c ∷ is) m n a b s la lb = absurd cc
items_add (TopK k c d ∷ is) m n a b s la lb = absurd cc

block_adds : (is : List CellItem) (a b : List ℕ) → list_all is_sum is ≡ true → length a ≡ block_width is → length b ≡ block_width is → merge_block is a b ≡ wordwise a b
unfolding merge_block
block_adds is [] b s la lb = absurd (omega (arith, la))
block_adds is (x ∷ xs) [] s la lb = absurd (omega (arith, lb))
block_adds is (x ∷ xs) (y ∷ ys) s la lb = ap (λ l. plus x y ∷ l) (items_add is x y xs ys s (omega (arith, la)) (omega (arith, lb)))

wordwise_parts : (w : ℕ) (a b : List ℕ) → wordwise a b ≡ wordwise (take w a) (take w b) ++ wordwise (drop w a) (drop w b)
wordwise_parts zero a b = refl
wordwise_parts (suc w) [] b = refl
wordwise_parts (suc w) (x ∷ xs) [] = none_right (drop w xs) where
  none_right : (l : List ℕ) → [] ≡ wordwise l []
  none_right [] = refl
  none_right (y ∷ ys) = refl
wordwise_parts (suc w) (x ∷ xs) (y ∷ ys) = ap (λ l. plus x y ∷ l) (wordwise_parts w xs ys)

blocks_add : (n : ℕ) (is : List CellItem) (a b : List ℕ) → list_all is_sum is ≡ true → length a ≡ n * block_width is → length b ≡ n * block_width is → merge_blocks n is a b ≡ wordwise a b
unfolding merge_blocks
blocks_add zero is [] b s la lb = refl
blocks_add zero is (x ∷ xs) b s la lb = absurd (omega (arith, la, zero-mul (block_width is)))
blocks_add (suc n) is a b s la lb =
    let w = block_width is in
    let split : (n + 1) * w ≡ n * w + 1 * w = add-mul n 1 w in
    let one = length-take w a in
    let two = length-take w b in
    let three = length-drop w a in
    let four = length-drop w b in
    let here = block_adds is (take w a) (take w b) s (omega (arith, la, split, one)) (omega (arith, lb, split, two)) in
    let more = blocks_add n is (drop w a) (drop w b) s (omega (arith, la, split, three)) (omega (arith, lb, split, four)) in
    rw (here, more) (sym (wordwise_parts w a b))

word_at : (a b : List ℕ) (k : ℕ) → k < length a → k < length b → slice_index (wordwise a b) k ≡ plus (slice_index a k) (slice_index b k)
word_at [] b k h i = absurd (omega (arith, h))
word_at (x ∷ xs) [] k h i = absurd (omega (arith, i))
word_at (x ∷ xs) (y ∷ ys) zero h i = refl
word_at (x ∷ xs) (y ∷ ys) (suc k) h i = word_at xs ys k (omega (arith, h)) (omega (arith, i))

-- and so the words of two lists add to those of the list to which both add
pub added_at : (a b c : List ℕ) (k : ℕ) → length a ≡ length c → length b ≡ length c → wordwise a b ≡ c → k < length c → plus (slice_index a k) (slice_index b k) ≡ slice_index c k
added_at a b c k long wide added here = sym (word_at a b k (omega (arith, here, long)) (omega (arith, here, wide))) ∙ ap (λ l. slice_index l k) added

pub same_lengths : {X : Type 0} (f : X → List ℕ) (k : ℕ) → ((x : X) → length (f x) ≡ k) → (xs : List X) → length (flat_map f xs) ≡ length xs * k
same_lengths f k each [] = sym (zero-mul k)
same_lengths f k each (x ∷ xs) =
    let split : (length xs + 1) * k ≡ length xs * k + 1 * k = add-mul (length xs) 1 k in
    let here = each x in
    let more = same_lengths f k each xs in
    let both : length (f x ++ flat_map f xs) ≡ length (f x) + length (flat_map f xs) = length-append (f x) (flat_map f xs) in
    omega (arith, split, here, more, both)

count_groups : (g : Option ℕ) (labels : ℕ) (rows : List Row) → length (groups g labels rows) ≡ blocks g labels
count_groups None labels rows = refl
count_groups (Some c) labels rows = length-map (range_with_len 0 labels) (with_label c rows) ∙ length-range_with_len 0 labels

pub length-cell : (adds : Addends) (spec : CellSpec) (rows : List Row) → length (cell adds spec rows) ≡ cell_width spec
length-cell adds spec rows =
    same_lengths (block adds spec.items) (block_width spec.items) (length-block adds spec.items) (groups spec.group spec.labels rows)
    ∙ ap (λ n. n * block_width spec.items) (count_groups spec.group spec.labels rows)

-- each word of zeros is 0
pub no_word : (n k : ℕ) → slice_index (replicate n 0) k ≡ 0
no_word zero k = refl
no_word (suc n) zero = refl
no_word (suc n) (suc k) = no_word n k

pub all_right : (b : List Row) → Interleaves [] b b
all_right [] = none
all_right (x ∷ xs) = right x [] xs xs (all_right xs)

module _ (adds : Addends) (spec : CellSpec) (sums : list_all is_sum spec.items ≡ true) where
  -- the cell of a row and of others, word by word
  row_adds : (r : Row) (rows : List Row) (k : ℕ) → Apart (r ∷ rows) → length (r ∷ rows) < 2 ^ 64 → k < cell_width spec
      → slice_index (cell adds spec (r ∷ rows)) k ≡ plus (slice_index (cell adds spec (r ∷ [])) k) (slice_index (cell adds spec rows) k)
  row_adds r rows k apart few here =
      let one = length-cell adds spec (r ∷ []) in
      let others = length-cell adds spec rows in
      let union = cell_merge adds spec (r ∷ []) rows (r ∷ rows) (left r [] rows rows (all_right rows)) apart few in
      let parts = blocks_add (blocks spec.group spec.labels) spec.items (cell adds spec (r ∷ [])) (cell adds spec rows) sums one others in
      ap (λ l. slice_index l k) (sym union ∙ parts) ∙ word_at (cell adds spec (r ∷ [])) (cell adds spec rows) k (rw one here) (rw others here)

  chosen : (passes : Row → Bool) (r : Row) (rows : List Row) (k s : ℕ) (b : Bool) → Apart (r ∷ rows) → length (r ∷ rows) < 2 ^ 64 → k < cell_width spec
      → s % 2 ^ 64 ≡ slice_index (cell adds spec rows) k % 2 ^ 64
      → (cond b 1 0 * slice_index (cell adds spec (r ∷ [])) k + s) % 2 ^ 64 ≡ slice_index (cell adds spec (cond b (r ∷ rows) rows)) k % 2 ^ 64
  chosen passes r rows k s true apart few here e =
      let word = row_adds r rows k apart few here in
      let once : 1 * slice_index (cell adds spec (r ∷ [])) k ≡ slice_index (cell adds spec (r ∷ [])) k = omega arith in
      rw (once, word) (omega (arith, e))
  chosen passes r rows k s false apart few here e =
      let none_of : 0 * slice_index (cell adds spec (r ∷ [])) k ≡ 0 = zero-mul (slice_index (cell adds spec (r ∷ [])) k) in
      rw none_of (omega (arith, e))

  pub rows_add : (passes : Row → Bool) (rows : List Row) (k : ℕ) → Apart rows → length rows < 2 ^ 64 → k < cell_width spec
      → sum_by (λ r. cond (passes r) 1 0 * slice_index (cell adds spec (r ∷ [])) k) rows % 2 ^ 64 ≡ slice_index (cell adds spec (filter passes rows)) k % 2 ^ 64
  rows_add passes [] k apart few here = ap (λ n. n % 2 ^ 64) (sym (ap (λ l. slice_index l k) (cell_empty adds spec) ∙ no_word (cell_width spec) k))
  rows_add passes (r ∷ rows) k apart few here =
      let more = rows_add passes rows k apart.1 (omega (arith, few)) here in
      let fewer = length-filter-le passes rows in
      let kept = chosen passes r (filter passes rows) k (sum_by (λ q. cond (passes q) 1 0 * slice_index (cell adds spec (q ∷ [])) k) rows) (passes r)
      (each-filter (λ s. r.number ≢ s.number) passes rows apart.0, Apart-filter passes rows apart.1) (omega (arith, few, fewer)) here more in
      ap (λ n. n % 2 ^ 64) (sum_by-cons (λ q. cond (passes q) 1 0 * slice_index (cell adds spec (q ∷ [])) k) r rows) ∙ kept
