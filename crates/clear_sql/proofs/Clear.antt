-- The answer of a cell of rows.
use Rattle.std.proofs.Common.{◌≡◌, ℕ, zero, suc, ◌+◌, ◌≤◌, Bool, true, false, cond, eqb, List, [], ◌∷◌, ◌++◌, length, map, take, sum_by, Option, None, Some, refl, ap, ◌∙◌, arith}
use Rattle.std.specs.List.{filter, flat_map, range_with_len, AllByRecursion}
use Rattle.std.proofs.Math.Nat.{mod-eq_of_lt}
use Rattle.std.proofs.lemmas.Bool.{cond-false, ne_eqb}
use Rattle.std.proofs.lemmas.Bool.Decides.{nat_tests}
use Rattle.std.proofs.lemmas.List.{take_at, drop_at, take-map, append-nil}
use Rattle.std.proofs.lemmas.List.Sums.{sum_by-cons}
use Rattle.cell_merge.specs.declared.spec.CellItem.{CellItem}
use Rattle.cell_merge.specs.declared.spec.CellItem.TheVariants.{Count, Sum, Avg, Max, Min, TopK}
use Rattle.cell_merge.specs.declared.spec.CellSpec.{CellSpec}
use Rattle.spl_values.specs.Shapes.{ColumnParts}
use Rattle.clear_sql.specs.declared.answer.TopRow.{TopRow}
use Rattle.clear_sql.specs.declared.answer.Outcome.{Outcome}
use Rattle.clear_sql.specs.declared.answer.Outcome.TheVariants as outcome
use Rattle.clear_sql.specs.declared.answer.Group.{Group}
use Rattle.cell_merge.specs.Rows.{Row, code}
use Rattle.cell_merge.specs.Entries.{before, insertion, ordered, in_order, entries_of, words_of, entry}
use Rattle.cell_merge.specs.Cells.{addend, item_width, item_words, items_words, block, block_width, with_label, groups, cell}
use Rattle.cell_merge.specs.TableRows.{adds_in}
use Rattle.clear_sql.specs.Clear.{value_in, is_better, top_row, clear_item, clear_items, clear_label, clear_by, clear}
use Rattle.clear_sql.specs.CellAnswers.{answer_by, entry_row, outcome_of, outcomes_of, results_of, label_group, groups_of, answer_of}
use Rattle.sum_bounds.proofs.Items.{ItemBounded}
use Rattle.cell_merge.proofs.Merging.{length-item_words, read_back}
use Rattle.cell_merge.proofs.Labels.{length-block}

-- ---- the best rows

before-entry : (s h : ℕ) (x y : Row) → before (entry s h x) (entry s h y) ≡ is_better s x y
unfolding before is_better
before-entry s h x y = grind (arith, nat_tests)

placed-step : (s h : ℕ) (x y : Row) (ys : List Row) → insertion before (entry s h x) (map (entry s h) ys) ≡ map (entry s h) (insertion (is_better s) x ys)
    → (t u : Bool) → t ≡ u
    → cond t (entry s h y ∷ insertion before (entry s h x) (map (entry s h) ys)) (entry s h x ∷ entry s h y ∷ map (entry s h) ys)
    ≡ map (entry s h) (cond u (y ∷ insertion (is_better s) x ys) (x ∷ y ∷ ys))
placed-step s h x y ys ih true true e = ap (λ r. entry s h y ∷ r) ih
placed-step s h x y ys ih false false e = refl
placed-step s h x y ys ih true false e = cc
placed-step s h x y ys ih false true e = cc

placed-map : (s h : ℕ) (x : Row) (ys : List Row) → insertion before (entry s h x) (map (entry s h) ys) ≡ map (entry s h) (insertion (is_better s) x ys)
unfolding insertion
placed-map s h x [] = refl
placed-map s h x (y ∷ ys) = placed-step s h x y ys (placed-map s h x ys) (before (entry s h y) (entry s h x)) (is_better s y x) (before-entry s h y x)

ordered-map : (s h : ℕ) (rows : List Row) → in_order (map (entry s h) rows) ≡ map (entry s h) (ordered (is_better s) rows)
unfolding ordered
ordered-map s h [] = refl
ordered-map s h (r ∷ rows) = ap (λ l. insertion before (entry s h r) l) (ordered-map s h rows) ∙ placed-map s h r (ordered (is_better s) rows)

one_row : (columns : List ColumnParts) (s h : ℕ) (r : Row) → entry_row columns s h (entry s h r) ≡ top_row columns s h r
one_row columns s h r =
    let make : ℕ → TopRow = λ n. record { row = n; sort = value_in columns s (code s r); show = value_in columns h (code h r) } in
    ap make (omega arith)

all_rows : (columns : List ColumnParts) (s h : ℕ) (rows : List Row) → map (entry_row columns s h) (map (entry s h) rows) ≡ map (top_row columns s h) rows
all_rows columns s h [] = refl
all_rows columns s h (r ∷ rows) =
    ap (λ x. x ∷ map (entry_row columns s h) (map (entry s h) rows)) (one_row columns s h r) ∙ ap (λ l. top_row columns s h r ∷ l) (all_rows columns s h rows)

top_of : (columns : List ColumnParts) (k s h : ℕ) (rows : List Row)
    → map (entry_row columns s h) (entries_of (words_of k (in_order (map (entry s h) rows)))) ≡ map (top_row columns s h) (take k (ordered (is_better s) rows))
top_of columns k s h rows =
    ap (λ l. map (entry_row columns s h) l) (read_back k s h rows ∙ (ap (λ l. take k l) (ordered-map s h rows) ∙ take-map (entry s h) k (ordered (is_better s) rows)))
    ∙ all_rows columns s h (take k (ordered (is_better s) rows))

-- ---- one item, all items

not_null : (n : ℕ) (x : Outcome) → cond (eqb (suc n) 0) outcome.Null x ≡ x
not_null n x = cond-false (eqb (suc n) 0) outcome.Null x (ne_eqb (suc n) 0 (λ e. omega arith))

pub outcome_is : (columns : List ColumnParts) (i : CellItem) (rows : List Row) → ItemBounded columns rows i
    → outcome_of columns i (length rows) (item_words (adds_in columns) i rows) ≡ clear_item columns i rows
outcome_is columns Count rows f = refl
outcome_is columns (Sum c) [] f = refl
outcome_is columns (Sum c) (r ∷ rs) f = not_null (length rs) _ ∙ ap (λ n. outcome.Sum n) (mod-eq_of_lt f)
outcome_is columns (Avg c) [] f = refl
outcome_is columns (Avg c) (r ∷ rs) f = not_null (length rs) _ ∙ ap (λ n. outcome.Avg n (suc (length rs))) (mod-eq_of_lt f)
outcome_is columns (Max c) [] f = refl
outcome_is columns (Max c) (r ∷ rs) f = not_null (length rs) _
outcome_is columns (Min c) [] f = refl
outcome_is columns (Min c) (r ∷ rs) f = not_null (length rs) _
outcome_is columns (TopK k s h) rows f = ap (λ l. outcome.Top l) (top_of columns k s h rows)

outcomes_are : (columns : List ColumnParts) (is : List CellItem) (rows : List Row) → AllByRecursion (ItemBounded columns rows) is
    → outcomes_of columns is (length rows) (items_words (adds_in columns) is rows) ≡ clear_items columns is rows
unfolding outcomes_of items_words
outcomes_are columns [] rows f = refl
outcomes_are columns (i ∷ is) rows f =
    rw (take_at (item_words (adds_in columns) i rows) (items_words (adds_in columns) is rows) (item_width i) (length-item_words (adds_in columns) i rows), drop_at (item_words (adds_in columns) i rows) (items_words (adds_in columns) is rows) (item_width i) (length-item_words (adds_in columns) i rows))
    (ap (λ x. x ∷ outcomes_of columns is (length rows) (items_words (adds_in columns) is rows)) (outcome_is columns i rows f.0) ∙ ap (λ l. clear_item columns i rows ∷ l) (outcomes_are columns is rows f.1))

results_are : (columns : List ColumnParts) (is : List CellItem) (rows : List Row) → AllByRecursion (ItemBounded columns rows) is
    → results_of columns is (block (adds_in columns) is rows) ≡ clear_items columns is rows
unfolding block
results_are columns is rows f = outcomes_are columns is rows f

-- ---- the labels

sum_step : (t : Bool) (f : Row → ℕ) (r : Row) (a b : List Row) → sum_by f a ≤ sum_by f b → sum_by f (cond t (r ∷ a) a) ≤ sum_by f (r ∷ b)
sum_step true f r a b h = let p = sum_by-cons f r a in let q = sum_by-cons f r b in omega arith
sum_step false f r a b h = let q = sum_by-cons f r b in omega arith

sum_by-filter-le : (f : Row → ℕ) (p : Row → Bool) (rows : List Row) → sum_by f (filter p rows) ≤ sum_by f rows
sum_by-filter-le f p [] = omega arith
sum_by-filter-le f p (r ∷ rows) = sum_step (p r) f r (filter p rows) rows (sum_by-filter-le f p rows)

part_fits : (columns : List ColumnParts) (rows : List Row) (p : Row → Bool) (i : CellItem) → ItemBounded columns rows i → ItemBounded columns (filter p rows) i
part_fits columns rows p Count f = tt
part_fits columns rows p (Sum c) f = let e = sum_by-filter-le (addend (adds_in columns) c) p rows in omega arith
part_fits columns rows p (Avg c) f = let e = sum_by-filter-le (addend (adds_in columns) c) p rows in omega arith
part_fits columns rows p (Max c) f = tt
part_fits columns rows p (Min c) f = tt
part_fits columns rows p (TopK k s h) f = tt

parts_fit : (columns : List ColumnParts) (rows : List Row) (p : Row → Bool) (is : List CellItem) → AllByRecursion (ItemBounded columns rows) is → AllByRecursion (ItemBounded columns (filter p rows)) is
parts_fit columns rows p [] f = tt
parts_fit columns rows p (i ∷ is) f = (part_fits columns rows p i f.0, parts_fit columns rows p is f.1)

-- the group of one label
one_group : (columns : List ColumnParts) (is : List CellItem) (label : ℕ) (mine : List Row) → AllByRecursion (ItemBounded columns mine) is
    → label_group columns is label (block (adds_in columns) is mine) ≡ clear_label columns is label mine
unfolding block
one_group columns is label [] f = refl
one_group columns is label (r ∷ rs) f =
    let make : List Outcome → List Group = λ l. record { label = Some label; results = l } ∷ [] in
    cond-false (eqb (suc (length rs)) 0) [] (make (results_of columns is (block (adds_in columns) is (r ∷ rs)))) (ne_eqb (suc (length rs)) 0 (λ e. omega arith))
    ∙ ap make (results_are columns is (r ∷ rs) f)

labels_are : (columns : List ColumnParts) (is : List CellItem) (column : ℕ) (rows : List Row) → AllByRecursion (ItemBounded columns rows) is → (l n : ℕ)
    → groups_of columns is l n (flat_map (block (adds_in columns) is) (map (with_label column rows) (range_with_len l n)))
    ≡ flat_map (λ label. clear_label columns is label (with_label column rows label)) (range_with_len l n)
unfolding groups_of
labels_are columns is column rows f l zero = refl
labels_are columns is column rows f l (suc n) =
    let mine = with_label column rows l in
    let rest = flat_map (block (adds_in columns) is) (map (with_label column rows) (range_with_len (l + 1) n)) in
    let fits = parts_fit columns rows (λ r. eqb (code column r) l) is f in
    rw (take_at (block (adds_in columns) is mine) rest (block_width is) (length-block (adds_in columns) is mine), drop_at (block (adds_in columns) is mine) rest (block_width is) (length-block (adds_in columns) is mine))
    (ap (λ g. g ++ groups_of columns is (l + 1) n rest) (one_group columns is l mine fits)
    ∙ ap (λ g. clear_label columns is l mine ++ g) (labels_are columns is column rows f (l + 1) n))

by_group : (columns : List ColumnParts) (spec : CellSpec) (g : Option ℕ) (rows : List Row) → AllByRecursion (ItemBounded columns rows) spec.items
    → answer_by columns spec g (flat_map (block (adds_in columns) spec.items) (groups g spec.labels rows)) ≡ clear_by columns spec g rows
by_group columns spec None rows f =
    let make : List Outcome → List Group = λ l. record { label = None; results = l } ∷ [] in
    rw (append-nil (block (adds_in columns) spec.items rows)) (ap make (results_are columns spec.items rows f))
by_group columns spec (Some column) rows f = labels_are columns spec.items column rows f 0 spec.labels

pub cell_clear : (columns : List ColumnParts) (spec : CellSpec) (rows : List Row) (keeps : Row → Bool) → AllByRecursion (ItemBounded columns rows) spec.items
    → answer_of columns spec (cell (adds_in columns) spec (filter keeps rows)) ≡ clear columns spec (filter keeps rows)
cell_clear columns spec rows keeps f = by_group columns spec spec.group (filter keeps rows) (parts_fit columns rows keeps spec.items f)
