-- The merge of the cells of two disjoint lists of rows.
use Rattle.std.proofs.Common.{◌≡◌, ◌≢◌, ℕ, suc, ◌+◌, ◌%◌, ◌^◌, ◌<◌, min, max, cond, eqb, List, [], ◌∷◌, ◌++◌, length, map, take, sum_by, refl, ap, sym, ◌∙◌, arith}
use Rattle.std.specs.List.{AllByRecursion}
use Rattle.std.proofs.Math.Nat.{mod-add-mod, add-mod-mod, mod-eq_of_lt}
use Rattle.std.proofs.lemmas.Bool.Decides.{nat_tests}
use Rattle.std.proofs.lemmas.List.{take_at, drop_at}
use Rattle.std.proofs.lemmas.List.Sums.{sum_by-cons}
use Rattle.cell_merge.specs.declared.spec.CellItem.{CellItem}
use Rattle.cell_merge.specs.declared.spec.CellItem.TheVariants.{Count, Sum, Avg, Max, Min, TopK}
use Rattle.spl_words.specs.Words.{plus}
use Rattle.cell_merge.specs.Rows.{Row, Interleaves, Apart, code}
use Rattle.cell_merge.specs.Rows.Interleaves.{none, left, right}
use Rattle.cell_merge.specs.Entries.{entries_of, words_of, in_order, entry}
use Rattle.cell_merge.specs.Cells.{Addends, addend, item_width, greatest, least, item_words, items_words, block, better, merge_item, merge_items, merge_block}
use Rattle.cell_merge.proofs.Lists.{each-map, each_weaker, Interleaves-map, length-interleaved}
use Rattle.cell_merge.proofs.Sorting.{each-in_order}
use Rattle.cell_merge.proofs.Best.{ApartEntries, best_of_best, in_order_interleaved, separate_interleaved}
use Rattle.cell_merge.proofs.Words.{words_of-take, length-words_of, entries_of-words_of}

-- ---- sums

pub sum_by-interleaved : {A : Type 0} (f : A → ℕ) (a b c : List A) → Interleaves a b c → sum_by f c ≡ sum_by f a + sum_by f b
sum_by-interleaved f _ _ _ none = omega arith
sum_by-interleaved f _ _ _ (left x a b c i) =
    let e = sum_by-interleaved f a b c i in
    let p = sum_by-cons f x a in
    let q = sum_by-cons f x c in
    omega arith
sum_by-interleaved f _ _ _ (right x a b c i) =
    let e = sum_by-interleaved f a b c i in
    let p = sum_by-cons f x b in
    let q = sum_by-cons f x c in
    omega arith

pub plus-mod : (a b : ℕ) → plus (a % 2 ^ 64) (b % 2 ^ 64) ≡ (a + b) % 2 ^ 64
plus-mod a b = mod-add-mod a (2 ^ 64) (b % 2 ^ 64) ∙ add-mod-mod a b (2 ^ 64)

pub sums_merge : (f : Row → ℕ) (a b c : List Row) → Interleaves a b c → plus (sum_by f a % 2 ^ 64) (sum_by f b % 2 ^ 64) ≡ sum_by f c % 2 ^ 64
sums_merge f a b c i = plus-mod (sum_by f a) (sum_by f b) ∙ ap (λ s. s % 2 ^ 64) (sym (sum_by-interleaved f a b c i))

-- ---- greatest and least

greatest_step : (x m n a b c : ℕ) → c ≡ better max m n a b → (m ≡ 0 → a ≡ 0) → (n ≡ 0 → b ≡ 0)
    → max x c ≡ better max (suc m) n (max x a) b
greatest_step x m n a b c e p q = grind (arith, nat_tests)

greatest_step_right : (x m n a b c : ℕ) → c ≡ better max m n a b → (m ≡ 0 → a ≡ 0) → (n ≡ 0 → b ≡ 0)
    → max x c ≡ better max m (suc n) a (max x b)
greatest_step_right x m n a b c e p q = grind (arith, nat_tests)

greatest_none : (l : List ℕ) → length l ≡ 0 → greatest l ≡ 0
unfolding greatest
greatest_none [] h = refl
greatest_none (x ∷ l) h = absurd (omega arith)

pub greatest_merge : (a b c : List ℕ) → Interleaves a b c → better max (length a) (length b) (greatest a) (greatest b) ≡ greatest c
unfolding greatest
greatest_merge _ _ _ none = refl
greatest_merge _ _ _ (left x a b c i) =
    sym (greatest_step x (length a) (length b) (greatest a) (greatest b) (greatest c) (sym (greatest_merge a b c i)) (greatest_none a) (greatest_none b))
greatest_merge _ _ _ (right x a b c i) =
    sym (greatest_step_right x (length a) (length b) (greatest a) (greatest b) (greatest c) (sym (greatest_merge a b c i)) (greatest_none a) (greatest_none b))

least-cons : (x : ℕ) (l : List ℕ) → least (x ∷ l) ≡ cond (eqb (length l) 0) x (min x (least l))
unfolding least
least-cons x [] = refl
least-cons x (y ∷ l) = grind (arith, nat_tests)

least_step : (x m n k a b c : ℕ) → k ≡ m + n → c ≡ better min m n a b
    → cond (eqb k 0) x (min x c) ≡ better min (suc m) n (cond (eqb m 0) x (min x a)) b
least_step x m n k a b c l e = grind (arith, nat_tests)

least_step_right : (x m n k a b c : ℕ) → k ≡ m + n → c ≡ better min m n a b
    → cond (eqb k 0) x (min x c) ≡ better min m (suc n) a (cond (eqb n 0) x (min x b))
least_step_right x m n k a b c l e = grind (arith, nat_tests)

none_least : better min 0 0 (least []) (least []) ≡ least []
unfolding least
none_least = refl

pub least_merge : (a b c : List ℕ) → Interleaves a b c → better min (length a) (length b) (least a) (least b) ≡ least c
least_merge _ _ _ none = none_least
least_merge _ _ _ (left x a b c i) =
    rw (least-cons x a, least-cons x c)
    (sym (least_step x (length a) (length b) (length c) (least a) (least b) (least c) (length-interleaved a b c i) (sym (least_merge a b c i))))
least_merge _ _ _ (right x a b c i) =
    rw (least-cons x b, least-cons x c)
    (sym (least_step_right x (length a) (length b) (length c) (least a) (least b) (least c) (length-interleaved a b c i) (sym (least_merge a b c i))))

length_map : (f : Row → ℕ) (l : List Row) → length (map f l) ≡ length l
length_map f [] = refl
length_map f (x ∷ l) = ap suc (length_map f l)

-- ---- the best rows

apart_entries : (s h : ℕ) (c : List Row) → Apart c → ApartEntries (map (entry s h) c)
apart_entries s h [] d = tt
apart_entries s h (r ∷ c) d = (each-map (λ y. (entry s h r).place ≢ y.place) (entry s h) c (each_weaker (λ t. r.number ≢ t.number) (λ t. r.number + 1 ≢ t.number + 1) (λ t n e. n (omega arith)) c d.0), apart_entries s h c d.1)

used : (s h : ℕ) (c : List Row) → AllByRecursion (λ x. x.place ≢ 0) (map (entry s h) c)
used s h [] = tt
used s h (r ∷ c) = ((λ e. omega arith), used s h c)

pub read_back : (k : ℕ) (s h : ℕ) (rows : List Row) → entries_of (words_of k (in_order (map (entry s h) rows))) ≡ take k (in_order (map (entry s h) rows))
read_back k s h rows = entries_of-words_of k (in_order (map (entry s h) rows)) (each-in_order (λ x. x.place ≢ 0) (map (entry s h) rows) (used s h rows))

pub top_merge : (k s h : ℕ) (a b c : List Row) → Interleaves a b c → Apart c
    → words_of k (in_order (entries_of (words_of k (in_order (map (entry s h) a))) ++ entries_of (words_of k (in_order (map (entry s h) b)))))
    ≡ words_of k (in_order (map (entry s h) c))
top_merge k s h a b c i d =
    let f = entry s h in
    let j = Interleaves-map f a b c i in
    let e = apart_entries s h c d in
    let mine = best_of_best k (map f a) (map f b) (separate_interleaved (map f a) (map f b) (map f c) j e) in
    rw (read_back k s h a, read_back k s h b)
    (words_of-take k (in_order (take k (in_order (map f a)) ++ take k (in_order (map f b))))
    ∙ (ap (λ l. words_of k l) (mine ∙ sym (ap (λ l. take k l) (in_order_interleaved (map f a) (map f b) (map f c) j e)))
    ∙ sym (words_of-take k (in_order (map f c)))))

module _ (adds : Addends) where
  -- ---- one item, the items of a label, a label

  pub length-item_words : (i : CellItem) (rows : List Row) → length (item_words adds i rows) ≡ item_width i
  length-item_words Count rows = refl
  length-item_words (Sum c) rows = refl
  length-item_words (Avg c) rows = refl
  length-item_words (Max c) rows = refl
  length-item_words (Min c) rows = refl
  length-item_words (TopK k s h) rows = length-words_of k (in_order (map (entry s h) rows))

  same_word : (x y : ℕ) → x ≡ y → x ∷ [] ≡ y ∷ []
  same_word x y e = ap (λ z. z ∷ []) e

  pub item_merge : (i : CellItem) (a b c : List Row) → Interleaves a b c → Apart c
      → merge_item i (length a) (length b) (item_words adds i a) (item_words adds i b) ≡ item_words adds i c
  item_merge Count a b c i d = refl
  item_merge (Sum k) a b c i d = same_word _ _ (sums_merge (addend adds k) a b c i)
  item_merge (Avg k) a b c i d = same_word _ _ (sums_merge (addend adds k) a b c i)
  item_merge (Max k) a b c i d =
      let e = greatest_merge (map (code k) a) (map (code k) b) (map (code k) c) (Interleaves-map (code k) a b c i) in
      same_word _ _ (rw (length_map (code k) a, length_map (code k) b) at e)
  item_merge (Min k) a b c i d =
      let e = least_merge (map (code k) a) (map (code k) b) (map (code k) c) (Interleaves-map (code k) a b c i) in
      same_word _ _ (rw (length_map (code k) a, length_map (code k) b) at e)
  item_merge (TopK k s h) a b c i d = top_merge k s h a b c i d

  pub items_merge : (is : List CellItem) (a b c : List Row) → Interleaves a b c → Apart c
      → merge_items is (length a) (length b) (items_words adds is a) (items_words adds is b) ≡ items_words adds is c
  unfolding merge_items items_words
  items_merge [] a b c i d = refl
  items_merge (t ∷ is) a b c i d =
      rw (take_at (item_words adds t a) (items_words adds is a) (item_width t) (length-item_words t a), take_at (item_words adds t b) (items_words adds is b) (item_width t) (length-item_words t b), drop_at (item_words adds t a) (items_words adds is a) (item_width t) (length-item_words t a), drop_at (item_words adds t b) (items_words adds is b) (item_width t) (length-item_words t b))
      (ap (λ r. r ++ merge_items is (length a) (length b) (items_words adds is a) (items_words adds is b)) (item_merge t a b c i d)
      ∙ ap (λ r. item_words adds t c ++ r) (items_merge is a b c i d))

  pub block_merge : (is : List CellItem) (a b c : List Row) → Interleaves a b c → Apart c → length c < 2 ^ 64
      → merge_block is (block adds is a) (block adds is b) ≡ block adds is c
  unfolding merge_block block
  block_merge is a b c i d n =
      let e = length-interleaved a b c i in
      let count : plus (length a) (length b) ≡ length c = ap (λ s. s % 2 ^ 64) (sym e) ∙ mod-eq_of_lt n in
      ap (λ m. m ∷ merge_items is (length a) (length b) (items_words adds is a) (items_words adds is b)) count
      ∙ ap (λ r. length c ∷ r) (items_merge is a b c i d)
