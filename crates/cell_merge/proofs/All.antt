-- The empty cell, and the merge of the cells of many parts.
use Rattle.std.proofs.Common.{◌≡◌, ◌≢◌, ℕ, zero, suc, ◌+◌, ◌*◌, ◌^◌, ◌<◌, Bool, true, false, ◌||◌, cond, eqb, List, [], ◌∷◌, ◌++◌, length, map, replicate, Option, None, Some, refl, ap, subst, inl, inr, sym, ◌∙◌, arith}
use Rattle.std.specs.List.{filter, flat_map, fold, range_with_len, AllByRecursion}
use Rattle.std.proofs.lemmas.Bool.{cases_Bool, false≢true, eqb-true, ne_eqb, or_cases}
use Rattle.std.proofs.lemmas.List.{append-nil, replicate-append-replicate}
use Rattle.std.proofs.lemmas.List.Elements.{filter_agree}
use Rattle.cell_merge.specs.declared.spec.CellItem.{CellItem}
use Rattle.cell_merge.specs.declared.spec.CellItem.TheVariants.{Count, Sum, Avg, Max, Min, TopK}
use Rattle.cell_merge.specs.declared.spec.CellSpec.{CellSpec}
use Rattle.cell_merge.specs.Rows.{Row, Apart, Distinct, one_of}
use Rattle.cell_merge.specs.Entries.{ordered, words_of}
use Rattle.cell_merge.specs.Cells.{Addends, item_width, items_width, item_words, items_words, block, block_width, greatest, least, with_label, groups, blocks, cell, empty_cell, merge, merge_all}
use Rattle.cell_merge.proofs.Labels.{cell_merge_picked}

pub no_words : (k : ℕ) → words_of k [] ≡ replicate (3 * k) 0
unfolding words_of
no_words zero = refl
no_words (suc k) = let e : 3 * suc k ≡ suc (suc (suc (3 * k))) = omega arith in rw e (ap (λ l. 0 ∷ 0 ∷ 0 ∷ l) (no_words k))

module _ (adds : Addends) where
  no_item : (i : CellItem) → item_words adds i [] ≡ replicate (item_width i) 0
  unfolding greatest least ordered
  no_item Count = refl
  no_item (Sum c) = refl
  no_item (Avg c) = refl
  no_item (Max c) = refl
  no_item (Min c) = refl
  no_item (TopK k s h) = no_words k

  no_items : (is : List CellItem) → items_words adds is [] ≡ replicate (items_width is) 0
  unfolding items_words items_width
  no_items [] = refl
  no_items (i ∷ is) =
      ap (λ l. l ++ items_words adds is []) (no_item i)
      ∙ (ap (λ l. replicate (item_width i) 0 ++ l) (no_items is) ∙ replicate-append-replicate (item_width i) (items_width is) 0)

  pub no_block : (is : List CellItem) → block adds is [] ≡ replicate (block_width is) 0
  unfolding block
  no_block is = let e : 1 + items_width is ≡ suc (items_width is) = omega arith in rw e (ap (λ l. 0 ∷ l) (no_items is))

  no_labels : (is : List CellItem) (column l n : ℕ) → flat_map (block adds is) (map (with_label column []) (range_with_len l n)) ≡ replicate (n * block_width is) 0
  no_labels is column l zero = let e : 0 * block_width is ≡ 0 = omega arith in rw e refl
  no_labels is column l (suc n) =
      let e : block_width is + n * block_width is ≡ suc n * block_width is = omega arith in
      ap (λ b. b ++ flat_map (block adds is) (map (with_label column []) (range_with_len (l + 1) n))) (no_block is)
      ∙ (ap (λ b. replicate (block_width is) 0 ++ b) (no_labels is column (l + 1) n)
      ∙ (replicate-append-replicate (block_width is) (n * block_width is) 0 ∙ ap (λ k. replicate k 0) e))

  no_groups : (g : Option ℕ) (labels : ℕ) (is : List CellItem) → flat_map (block adds is) (groups g labels []) ≡ replicate (blocks g labels * block_width is) 0
  no_groups None labels is = let e : block_width is ≡ 1 * block_width is = omega arith in append-nil (block adds is []) ∙ (no_block is ∙ ap (λ k. replicate k 0) e)
  no_groups (Some column) labels is = no_labels is column 0 labels

  pub cell_empty : (spec : CellSpec) → cell adds spec [] ≡ empty_cell spec
  cell_empty spec = no_groups spec.group spec.labels spec.items

  -- ---- many parts

  or_assoc : (a b c : Bool) → ((a || b) || c) ≡ (a || (b || c))
  or_assoc true b c = refl
  or_assoc false b c = refl

  none_filter : (rows : List Row) → filter (λ (r : Row). false) rows ≡ []
  none_filter [] = refl
  none_filter (r ∷ rows) = none_filter rows

  -- what passes p has none of the numbers
  abbrev pub Outside : (Row → Bool) → (Row → ℕ) → List ℕ → Type 0
  Outside p f ns = (r : Row) → p r ≡ true → AllByRecursion (λ n. f r ≢ n) ns

  more_outside : (p : Row → Bool) (f : Row → ℕ) (n : ℕ) (ns : List ℕ) → Outside p f (n ∷ ns) → AllByRecursion (λ m. n ≢ m) ns → Outside (λ r. p r || eqb (f r) n) f ns
  more_outside p f n ns h d r t =
      elim (or_cases (p r) (eqb (f r) n) t) [
        | inl e ↦ (h r e).1
        | inr e ↦ let same : n ≡ f r = sym (eqb-true (f r) n e) in let P : ℕ → Type 0 = λ k. AllByRecursion (λ m. k ≢ m) ns in subst P same d
      ]

  fold_parts : (spec : CellSpec) (f : Row → ℕ) (ns : List ℕ) (rows : List Row) (p : Row → Bool) → Outside p f ns → Distinct ns → Apart rows → length rows < 2 ^ 64
      → fold (merge spec) (cell adds spec (filter p rows)) (map (λ n. cell adds spec (filter (λ r. eqb (f r) n) rows)) ns) ≡ cell adds spec (filter (λ r. p r || one_of ns (f r)) rows)
  fold_parts spec f [] rows p h d a m = ap (λ l. cell adds spec l) (filter_agree p (λ r. p r || false) (λ r. or_nothing (p r)) rows)
    where
      or_nothing : (b : Bool) → b ≡ (b || false)
      or_nothing true = refl
      or_nothing false = refl
  fold_parts spec f (n ∷ ns) rows p h d a m =
      let q : Row → Bool = λ r. eqb (f r) n in
      let rest = map (λ k. cell adds spec (filter (λ r. eqb (f r) k) rows)) ns in
      ap (λ c. fold (merge spec) c rest) (cell_merge_picked adds spec p q rows (λ r t. ne_eqb (f r) n (h r t).0) a m)
      ∙ (fold_parts spec f ns rows (λ r. p r || q r) (more_outside p f n ns h d.0) d.1 a m
      ∙ ap (λ l. cell adds spec l) (filter_agree (λ r. (p r || q r) || one_of ns (f r)) (λ r. p r || one_of (n ∷ ns) (f r)) (λ r. or_assoc (p r) (q r) (one_of ns (f r))) rows))

  pub merge_of_many : (spec : CellSpec) (f : Row → ℕ) (ns : List ℕ) (rows : List Row) → Distinct ns → Apart rows → length rows < 2 ^ 64
      → merge_all spec (map (λ n. cell adds spec (filter (λ r. eqb (f r) n) rows)) ns) ≡ cell adds spec (filter (λ r. one_of ns (f r)) rows)
  merge_of_many spec f ns rows d a m =
      let start : empty_cell spec ≡ cell adds spec (filter (λ r. false) rows) = sym (cell_empty spec) ∙ ap (λ l. cell adds spec l) (sym (none_filter rows)) in
      ap (λ c. fold (merge spec) c (map (λ n. cell adds spec (filter (λ r. eqb (f r) n) rows)) ns)) start
      ∙ fold_parts spec f ns rows (λ r. false) (λ r t. absurd (false≢true t)) d a m
