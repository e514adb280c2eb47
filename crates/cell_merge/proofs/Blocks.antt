-- Cells, an item and a block at a time.
use Rattle.std.proofs.Common.{◌≡◌, ℕ, zero, suc, ◌+◌, ◌-◌, ◌*◌, ◌%◌, ◌^◌, ◌<◌, ◌≤◌, min, inl, inr, List, [], ◌∷◌, ◌++◌, length, take, drop, slice_index, get_or, set, refl, ap, sym, ◌∙◌, arith, add-one, length-append}
use Rattle.std.proofs.lemmas.List.{append-nil, append_assoc, take_at, drop_at, drop-drop, take_all, drop_all, nil_from_length}
use Rattle.std.proofs.Math.Nat.{mul-le-mul_right, mul_comm}
use Rattle.std.proofs.lemmas.Bool.{cases_lt}
use borrow.Rule.Slice.PartMut.{put_mid}
use Rattle.cell_merge.specs.declared.spec.CellItem.{CellItem}
use Rattle.cell_merge.specs.declared.spec.CellItem.TheVariants.{Count, Sum, Avg, Max, Min, TopK}
use Rattle.cell_merge.specs.Entries.{before, ordered, entries_of}
use Rattle.cell_merge.specs.Cells.{item_width, items_width, block_width, merge_item, merge_items, merge_block, merge_blocks}
use Rattle.cell_merge.proofs.Words.{length-words_of}

-- ---- widths

pub items_width-more : (is : List CellItem) (i : ℕ) (d : CellItem) → i < length is → items_width (take (suc i) is) ≡ items_width (take i is) + item_width (get_or is i d)
unfolding items_width
items_width-more [] i d h = absurd (omega arith)
items_width-more (t ∷ is) zero d h = omega arith
items_width-more (t ∷ is) (suc i) d h = let e = items_width-more is i d (omega arith) in omega arith

pub items_width-take-le : (is : List CellItem) (i : ℕ) → items_width (take i is) ≤ items_width is
unfolding items_width
items_width-take-le is zero = omega arith
items_width-take-le [] (suc i) = omega arith
items_width-take-le (t ∷ is) (suc i) = let e = items_width-take-le is i in omega arith

-- one more item stays within the whole
pub items_width-room : (is : List CellItem) (i : ℕ) (d : CellItem) → i < length is → items_width (take i is) + item_width (get_or is i d) ≤ items_width is
items_width-room is i d h =
    let e = items_width-more is i d h in
    let f = items_width-take-le is (suc i) in
    omega arith

-- ---- lengths

pub length-merge_item : (t : CellItem) (m n : ℕ) (a b : List ℕ) → length (merge_item t m n a b) ≡ item_width t
length-merge_item Count m n a b = refl
length-merge_item (Sum c) m n a b = refl
length-merge_item (Avg c) m n a b = refl
length-merge_item (Max c) m n a b = refl
length-merge_item (Min c) m n a b = refl
length-merge_item (TopK k s h) m n a b = length-words_of k (ordered before (entries_of a ++ entries_of b))

pub length-merge_items : (is : List CellItem) (m n : ℕ) (a b : List ℕ) → length (merge_items is m n a b) ≡ items_width is
unfolding merge_items items_width
length-merge_items [] m n a b = refl
length-merge_items (t ∷ is) m n a b =
    let one = merge_item t m n (take (item_width t) a) (take (item_width t) b) in
    let rest = merge_items is m n (drop (item_width t) a) (drop (item_width t) b) in
    let e = length-append one rest in
    let f = length-merge_item t m n (take (item_width t) a) (take (item_width t) b) in
    let g = length-merge_items is m n (drop (item_width t) a) (drop (item_width t) b) in
    omega arith

pub length-merge_block : (is : List CellItem) (a b : List ℕ) → length (merge_block is a b) ≡ block_width is
unfolding merge_block
length-merge_block is a b = let e = length-merge_items is (slice_index a 0) (slice_index b 0) (drop 1 a) (drop 1 b) in omega arith

-- ---- one more

pub merge_items-more : (is : List CellItem) (i m n : ℕ) (a b : List ℕ) (d : CellItem) → i < length is
    → merge_items (take (suc i) is) m n a b
    ≡ merge_items (take i is) m n a b ++ merge_item (get_or is i d) m n (take (item_width (get_or is i d)) (drop (items_width (take i is)) a)) (take (item_width (get_or is i d)) (drop (items_width (take i is)) b))
unfolding merge_items items_width
merge_items-more [] i m n a b d h = absurd (omega arith)
merge_items-more (t ∷ is) zero m n a b d h = append-nil (merge_item t m n (take (item_width t) a) (take (item_width t) b))
merge_items-more (t ∷ is) (suc i) m n a b d h =
    let w = item_width t in
    let u = item_width (get_or is i d) in
    let v = items_width (take i is) in
    let one = merge_item t m n (take w a) (take w b) in
    let ih = merge_items-more is i m n (drop w a) (drop w b) d (omega arith) in
    ap (λ l. one ++ l) (rw (drop-drop v w a, drop-drop v w b) at ih)
    ∙ sym (append_assoc one (merge_items (take i is) m n (drop w a) (drop w b)) (merge_item (get_or is i d) m n (take u (drop (w + v) a)) (take u (drop (w + v) b))))

pub length-merge_blocks : (i : ℕ) (is : List CellItem) (a b : List ℕ) → length (merge_blocks i is a b) ≡ i * block_width is
unfolding merge_blocks
length-merge_blocks zero is a b = omega arith
length-merge_blocks (suc i) is a b =
    let w = block_width is in
    let one = merge_block is (take w a) (take w b) in
    let e = length-append one (merge_blocks i is (drop w a) (drop w b)) in
    let f = length-merge_block is (take w a) (take w b) in
    let g = length-merge_blocks i is (drop w a) (drop w b) in
    omega arith

pub merge_blocks-more : (i : ℕ) (is : List CellItem) (a b : List ℕ)
    → merge_blocks (suc i) is a b ≡ merge_blocks i is a b ++ merge_block is (take (block_width is) (drop (i * block_width is) a)) (take (block_width is) (drop (i * block_width is) b))
unfolding merge_blocks
merge_blocks-more zero is a b =
    let e : 0 * block_width is ≡ 0 = omega arith in
    rw e (append-nil (merge_block is (take (block_width is) a) (take (block_width is) b)))
merge_blocks-more (suc i) is a b =
    let w = block_width is in
    let one = merge_block is (take w a) (take w b) in
    let e : suc i * w ≡ w + i * w = omega arith in
    let ih = merge_blocks-more i is (drop w a) (drop w b) in
    rw e
    (ap (λ l. one ++ l) (rw (drop-drop (i * w) w a, drop-drop (i * w) w b) at ih)
    ∙ sym (append_assoc one (merge_blocks i is (drop w a) (drop w b)) (merge_block is (take w (drop (w + i * w) a)) (take w (drop (w + i * w) b)))))

-- ---- a part of a list that is done up to a place

pub part_of_done : (done a into : List ℕ) (at w : ℕ) → into ≡ done ++ drop at a → length done ≡ at → take w (drop at into) ≡ take w (drop at a)
part_of_done done a into at w e len = ap (λ l. take w (drop at l)) e ∙ ap (λ l. take w l) (drop_at done (drop at a) at len)

pub more_done : (done a into new : List ℕ) (at w : ℕ) → into ≡ done ++ drop at a → length done ≡ at
    → put_mid at w into new ≡ done ++ new ++ drop (at + w) a
more_done done a into new at w e len =
    let front : take at into ≡ done = ap (λ l. take at l) e ∙ take_at done (drop at a) at len in
    let back : drop w (drop at into) ≡ drop (at + w) a = ap (λ l. drop w (drop at l)) e ∙ (ap (λ l. drop w l) (drop_at done (drop at a) at len) ∙ drop-drop w at a) in
    ap (λ l. l ++ (new ++ drop w (drop at into))) front
    ∙ (ap (λ l. done ++ (new ++ l)) back
    ∙ sym (append_assoc done new (drop (at + w) a)))

-- ---- the loops

pub items_width-nil : items_width [] ≡ 0
unfolding items_width
items_width-nil = refl

pub items_width-add-one : (is : List CellItem) (i : ℕ) (d : CellItem) → i < length is → items_width (take (i + 1) is) ≡ items_width (take i is) + item_width (get_or is i d)
items_width-add-one is i d h = rw add-one (items_width-more is i d h)

set_first : (l : List ℕ) (v : ℕ) → 1 ≤ length l → set l 0 v ≡ v ∷ drop 1 l
set_first [] v h = absurd (omega arith)
set_first (x ∷ l) v h = refl

pub block_first : (l k : List ℕ) (v m n : ℕ) → 1 ≤ length l → set l 0 v ≡ (v ∷ merge_items [] m n (drop 1 l) (drop 1 k)) ++ drop 1 l
unfolding merge_items
block_first l k v m n h = set_first l v h

pub block_step : (is : List CellItem) (i : ℕ) (d : CellItem) (a b into new : List ℕ) (p m n at end : ℕ) → i < length is
    → at ≡ 1 + items_width (take i is) → end ≡ at + item_width (get_or is i d)
    → into ≡ (p ∷ merge_items (take i is) m n (drop 1 a) (drop 1 b)) ++ drop at a
    → new ≡ merge_item (get_or is i d) m n (take (end - at) (drop at into)) (take (end - at) (drop at b))
    → put_mid at (end - at) into new ≡ (p ∷ merge_items (take (i + 1) is) m n (drop 1 a) (drop 1 b)) ++ drop end a
block_step is i d a b into new p m n at end h is-at is-end is-into is-new =
    let t = get_or is i d in
    let w = item_width t in
    let v = items_width (take i is) in
    let M = merge_items (take i is) m n (drop 1 a) (drop 1 b) in
    let done = p ∷ M in
    let len : length done ≡ at = let e = length-merge_items (take i is) m n (drop 1 a) (drop 1 b) in omega arith in
    let width : end - at ≡ w = omega arith in
    let whole : at + (end - at) ≡ end = omega arith in
    let mine : take (end - at) (drop at into) ≡ take w (drop v (drop 1 a)) =
    part_of_done done a into at (end - at) is-into len ∙ (ap (λ k. take k (drop at a)) width ∙ (ap (λ k. take w (drop k a)) is-at ∙ ap (λ l. take w l) (sym (drop-drop v 1 a)))) in
    let theirs : take (end - at) (drop at b) ≡ take w (drop v (drop 1 b)) =
    ap (λ k. take k (drop at b)) width ∙ (ap (λ k. take w (drop k b)) is-at ∙ ap (λ l. take w l) (sym (drop-drop v 1 b))) in
    let new' : new ≡ merge_item t m n (take w (drop v (drop 1 a))) (take w (drop v (drop 1 b))) =
    is-new ∙ (ap (λ l. merge_item t m n l (take (end - at) (drop at b))) mine ∙ ap (λ l. merge_item t m n (take w (drop v (drop 1 a))) l) theirs) in
    let more : merge_items (take (i + 1) is) m n (drop 1 a) (drop 1 b) ≡ M ++ new =
    rw add-one (merge_items-more is i m n (drop 1 a) (drop 1 b) d h) ∙ ap (λ l. M ++ l) (sym new') in
    more_done done a into new at (end - at) is-into len
    ∙ (ap (λ k. done ++ new ++ drop k a) whole
    ∙ ap (λ l. (p ∷ l) ++ drop end a) (sym more))

pub block_all : (is : List CellItem) (i : ℕ) (a b into : List ℕ) (at : ℕ) → i ≡ length is → length a ≡ block_width is → at ≡ 1 + items_width (take i is)
    → into ≡ ((slice_index a 0 + slice_index b 0) % 2 ^ 64 ∷ merge_items (take i is) (slice_index a 0) (slice_index b 0) (drop 1 a) (drop 1 b)) ++ drop at a
    → into ≡ merge_block is a b
unfolding merge_block
block_all is i a b into at all len is-at is-into =
    let whole : take i is ≡ is = take_all i is (omega arith) in
    let e : items_width (take i is) ≡ items_width is = ap (λ l. items_width l) whole in
    let end : drop at a ≡ [] = drop_all at a (omega arith) in
    let p = (slice_index a 0 + slice_index b 0) % 2 ^ 64 in
    let M = merge_items (take i is) (slice_index a 0) (slice_index b 0) (drop 1 a) (drop 1 b) in
    is-into
    ∙ (ap (λ l. (p ∷ M) ++ l) end
    ∙ (ap (λ l. p ∷ l) (append-nil M)
    ∙ ap (λ l. p ∷ merge_items l (slice_index a 0) (slice_index b 0) (drop 1 a) (drop 1 b)) whole))

pub blocks_none : (n : ℕ) (is : List CellItem) (a b : List ℕ) → n ≡ 0 → length a ≡ n * block_width is → a ≡ merge_blocks n is a b
unfolding merge_blocks
blocks_none zero is a b e len = nil_from_length a (omega arith)
blocks_none (suc n) is a b e len = absurd (omega arith)

pub blocks_first : (is : List CellItem) (w : ℕ) (a b : List ℕ) → a ≡ merge_blocks 0 is a b ++ drop (0 * w) a
unfolding merge_blocks
blocks_first is w a b = let e : 0 * w ≡ 0 = omega arith in rw e refl

pub blocks_step : (is : List CellItem) (i w : ℕ) (a b into new : List ℕ) → w ≡ block_width is
    → into ≡ merge_blocks i is a b ++ drop (i * w) a
    → new ≡ merge_block is (take (i * w + w - i * w) (drop (i * w) into)) (take (i * w + w - i * w) (drop (i * w) b))
    → put_mid (i * w) (i * w + w - i * w) into new ≡ merge_blocks (i + 1) is a b ++ drop ((i + 1) * w) a
blocks_step is i w a b into new is-w is-into is-new =
    let at = i * w in
    let M = merge_blocks i is a b in
    let B = block_width is in
    let len : length M ≡ at = length-merge_blocks i is a b ∙ ap (λ k. i * k) (sym is-w) in
    let width : at + w - at ≡ w = omega arith in
    let whole : at + (at + w - at) ≡ (i + 1) * w = omega arith in
    let mine : take (at + w - at) (drop at into) ≡ take B (drop (i * B) a) =
    part_of_done M a into at (at + w - at) is-into len ∙ (ap (λ k. take k (drop at a)) (width ∙ is-w) ∙ ap (λ k. take B (drop (i * k) a)) is-w) in
    let theirs : take (at + w - at) (drop at b) ≡ take B (drop (i * B) b) =
    ap (λ k. take k (drop at b)) (width ∙ is-w) ∙ ap (λ k. take B (drop (i * k) b)) is-w in
    let new' : new ≡ merge_block is (take B (drop (i * B) a)) (take B (drop (i * B) b)) =
    is-new ∙ (ap (λ l. merge_block is l (take (at + w - at) (drop at b))) mine ∙ ap (λ l. merge_block is (take B (drop (i * B) a)) l) theirs) in
    let more : merge_blocks (i + 1) is a b ≡ M ++ new = rw add-one (merge_blocks-more i is a b) ∙ ap (λ l. M ++ l) (sym new') in
    more_done M a into new at (at + w - at) is-into len
    ∙ (ap (λ k. M ++ new ++ drop k a) whole
    ∙ ap (λ l. l ++ drop ((i + 1) * w) a) (sym more))

pub blocks_all : (is : List CellItem) (i n w : ℕ) (a b into : List ℕ) → i ≡ n → length a ≡ n * w → into ≡ merge_blocks i is a b ++ drop (i * w) a → into ≡ merge_blocks n is a b
blocks_all is i n w a b into e len is-into =
    let same : i * w ≡ n * w = ap (λ k. k * w) e in
    let end : drop (i * w) a ≡ [] = drop_all (i * w) a (omega arith) in
    is-into ∙ (ap (λ l. merge_blocks i is a b ++ l) end ∙ (append-nil (merge_blocks i is a b) ∙ ap (λ k. merge_blocks k is a b) e))

pub saturated : (w c x M : ℕ) → x ≡ min w M → min (x * c) M ≡ min (c * w) M
saturated w zero x M e = let p : x * 0 ≡ 0 = omega arith in let q : 0 * w ≡ 0 = omega arith in cc
saturated w (suc c) x M e =
    elim (cases_lt M w) [
      | inl h ↦
          let p : M ≤ x * suc c = let k : x ≡ M = omega arith in let r : 1 * x ≤ suc c * x = mul-le-mul_right x (omega arith) in omega arith in
          let q : M ≤ suc c * w = let r : 1 * w ≤ suc c * w = mul-le-mul_right w (omega arith) in omega arith in
          omega arith
      | inr h ↦ let k : x ≡ w = omega arith in let p : x * suc c ≡ suc c * w = ap (λ y. y * suc c) k ∙ mul_comm w (suc c) in omega arith
    ]
