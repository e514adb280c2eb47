-- The sums of items, one after another.
use Rattle.std.proofs.Common.{◌≡◌, ◌<◌, ◌≤◌, ◌+◌, ◌^◌, ℕ, List, [], ◌∷◌, length, drop, Option, Some, None, Result, Ok, Err, refl, ap, ◌∙◌, get_or}
use Rattle.std.specs.List.{AllByRecursion}
use Rattle.std.proofs.lemmas.List.{drop_more, drop_all}
use Rattle.spl_words.specs.Results.{◌>>=◌}
use Rattle.spl_values.specs.Shapes.{ColumnParts}
use Rattle.spl_values.specs.Tables.{TableParts}
use Rattle.cell_merge.specs.declared.spec.CellItem.{CellItem}
use Rattle.cell_merge.specs.declared.spec.CellItem.TheVariants.{Count, Sum, Avg, Max, Min, TopK}
use Rattle.cell_merge.specs.Rows.{Row}
use Rattle.cell_merge.specs.TableRows.{rows_of}
use Rattle.sum_bounds.specs.declared.AtRow.{AtRow}
use Rattle.sum_bounds.specs.declared.SumFault.{SumFault}
use Rattle.sum_bounds.specs.Sums.{column_sum}
use Rattle.sum_bounds.specs.Bounds.{first_over, item_bounded, sums_bounded, unless_over}
use Rattle.sum_bounds.proofs.First.{bounded}
use Rattle.sum_bounds.proofs.Steps.{below}

-- ---- the check of the items, one after another

module _ (t : TableParts) where
  -- the items from one on
  items_left : (items : List CellItem) (i : ℕ) (d : CellItem) → i < length items → sums_bounded t (drop i items) ≡ (item_bounded t (get_or items i d) >>= (λ ok. sums_bounded t (drop (i + 1) items)))
  unfolding sums_bounded
  items_left items i d h = ap (sums_bounded t) (drop_more items i d h)

  pub fails_here : (items : List CellItem) (i : ℕ) (d : CellItem) (e : SumFault) → i < length items → item_bounded t (get_or items i d) ≡ Err e → sums_bounded t (drop i items) ≡ Err e
  fails_here items i d e h fails = items_left items i d h ∙ ap (λ (r : Result (Unit {0}) SumFault). r >>= (λ ok. sums_bounded t (drop (i + 1) items))) fails

  pub passes_here : (items : List CellItem) (i : ℕ) (d : CellItem) (x : Unit {0}) → i < length items → item_bounded t (get_or items i d) ≡ Ok x → sums_bounded t (drop i items) ≡ sums_bounded t (drop (i + 1) items)
  passes_here items i d x h passes = items_left items i d h ∙ ap (λ (r : Result (Unit {0}) SumFault). r >>= (λ ok. sums_bounded t (drop (i + 1) items))) passes

  pub none_left : (items : List CellItem) (i : ℕ) → length items ≤ i → sums_bounded t (drop i items) ≡ Ok tt
  unfolding sums_bounded
  none_left items i h = ap (sums_bounded t) (drop_all i items h)

-- ---- what it says of each item

-- the exact sum of the item's column over rows is within its bound
abbrev pub ItemBounded : List ColumnParts → List Row → CellItem → Type 0
ItemBounded columns rows (Sum c) = column_sum columns c rows < 2 ^ 64
ItemBounded columns rows (Avg c) = column_sum columns c rows < 2 ^ 64
ItemBounded columns rows _ = Unit {0}

none_over : (column : ℕ) (o : Option AtRow) → unless_over column o ≡ Ok tt → o ≡ None
none_over column None h = refl
none_over column (Some at) h = absurd cc

first_passes : (a b : Result (Unit {0}) SumFault) → (a >>= (λ ok. b)) ≡ Ok tt → (a ≡ Ok tt) × (b ≡ Ok tt)
first_passes (Ok tt) b h = (refl, h)
first_passes (Err e) b h = absurd cc

column_bounded : (t : TableParts) (c : ℕ) → unless_over c (first_over t.shape.schema.columns c (rows_of t)) ≡ Ok tt → column_sum t.shape.schema.columns c (rows_of t) < 2 ^ 64
column_bounded t c h = below t.shape.schema.columns c (rows_of t) (bounded t c (none_over c (first_over t.shape.schema.columns c (rows_of t)) h))

one_bounded : (t : TableParts) (i : CellItem) → item_bounded t i ≡ Ok tt → ItemBounded t.shape.schema.columns (rows_of t) i
one_bounded t Count h = tt
one_bounded t (Sum c) h = column_bounded t c h
one_bounded t (Avg c) h = column_bounded t c h
one_bounded t (Max c) h = tt
one_bounded t (Min c) h = tt
one_bounded t (TopK k s w) h = tt

pub each_bounded : (t : TableParts) (items : List CellItem) → sums_bounded t items ≡ Ok tt → AllByRecursion (ItemBounded t.shape.schema.columns (rows_of t)) items
unfolding sums_bounded
each_bounded t [] h = tt
each_bounded t (i ∷ is) h = let both = first_passes (item_bounded t i) (sums_bounded t is) h in (one_bounded t i both.0, each_bounded t is both.1)
