-- The outcomes of a clear answer are what their items mean.
use Rattle.std.proofs.Common.{◌≡◌, ℕ, zero, suc, ◌+◌, ◌<◌, ◌≤◌, min, max, Bool, true, false, cond, eqb, inl, inr, List, [], ◌∷◌, length, map, All, Contains, Option, None, Some, refl, subst, arith}
use Rattle.std.specs.List.{AllByRecursion, AllZip, filter, flat_map, range_with_len}
use Rattle.std.proofs.lemmas.Bool.{cases_lt}
use Rattle.std.proofs.lemmas.List.Elements.{All-nil, All-cons, All-append, All-from_recursion}
use Rattle.spl_values.specs.Shapes.{ColumnParts}
use Rattle.spl_values.specs.Tables.{TableParts}
use Rattle.cell_merge.specs.declared.spec.CellItem.{CellItem}
use Rattle.cell_merge.specs.declared.spec.CellItem.TheVariants.{Count, Sum, Avg, Max, Min, TopK}
use Rattle.cell_merge.specs.declared.spec.CellSpec.{CellSpec}
use Rattle.cell_merge.specs.Rows.{Row, code}
use Rattle.cell_merge.specs.Entries.{ordered}
use Rattle.cell_merge.specs.Cells.{greatest, least, with_label}
use Rattle.cell_merge.specs.TableRows.{row_in, rows_of}
use Rattle.cell_merge.proofs.Lists.{each-filter}
use Rattle.query_reader.specs.declared.checked.Checked.{Checked}
use Rattle.query_reader.specs.Matching.{is_kept, some_branch_holds, matching_rows}
use Rattle.clear_sql.specs.declared.answer.Group.{Group}
use Rattle.clear_sql.specs.Clear.{is_better, clear_item, clear_items, clear_label, clear_by, clear}
use Rattle.clear_sql.specs.Meaning.{RowsRise, IsGreatest, IsLeast, IsOutcome, IsGroupOver}
use Rattle.clear_sql.proofs.Orders.{falling}

-- ---- rows whose numbers rise

pub rise-filter : (p : Row → Bool) (rows : List Row) → RowsRise rows → RowsRise (filter p rows)
rise-filter p [] h = tt
rise-filter p (r ∷ rs) h = step (p r) (rise-filter p rs h.1)
  where
    step : (t : Bool) → RowsRise (filter p rs) → RowsRise (cond t (r ∷ filter p rs) (filter p rs))
    step true k = (each-filter (λ (s : Row). r.number < s.number) p rs h.0, k)
    step false k = k

above_all : (t : TableParts) (m l n : ℕ) → m < l → AllByRecursion (λ (s : Row). m < s.number) (map (row_in t) (range_with_len l n))
above_all t m l zero h = tt
above_all t m l (suc n) h = (h, above_all t m (l + 1) n (omega arith))

rise_from : (t : TableParts) (l n : ℕ) → RowsRise (map (row_in t) (range_with_len l n))
rise_from t l zero = tt
rise_from t l (suc n) = (above_all t l (l + 1) n (omega arith), rise_from t (l + 1) n)

pub rise-matching : (checked : Checked) (params : List ℕ) (t : TableParts) → RowsRise (matching_rows checked params t)
rise-matching checked params t =
    rise-filter (some_branch_holds checked.branches checked.columns checked.range params) (filter (is_kept checked.public) (rows_of t))
    (rise-filter (is_kept checked.public) (rows_of t) (rise_from t 0 (length t.rows)))

-- ---- the greatest and the least code

none_above : (c m : ℕ) (rows : List Row) → greatest (map (code c) rows) ≤ m → AllByRecursion (λ r. code c r ≤ m) rows
unfolding greatest
none_above c m [] h = tt
none_above c m (r ∷ rs) h = (omega arith, none_above c m rs (omega arith))

none_below : (c m : ℕ) (rows : List Row) → (rows ≡ [] → ⊥) → m ≤ least (map (code c) rows) → AllByRecursion (λ r. m ≤ code c r) rows
unfolding least
none_below c m [] some h = absurd (some refl)
none_below c m (r ∷ []) some h = (h, tt)
none_below c m (r ∷ s ∷ rs) some h = (omega arith, none_below c m (s ∷ rs) (λ e. cc) (omega arith))

first-of : (x y : ℕ) (xs : List ℕ) → x ≡ y → Contains (x ∷ xs) y
first-of x y xs e = (0, omega arith, e)

behind-first : (x y : ℕ) (xs : List ℕ) → Contains xs y → Contains (x ∷ xs) y
behind-first x y xs h = let l = h.1 in (suc h.0, omega arith, h.2)

has_greatest : (x : ℕ) (xs : List ℕ) → Contains (x ∷ xs) (greatest (x ∷ xs))
unfolding greatest
has_greatest x [] = first-of x (max x 0) [] (omega arith)
has_greatest x (y ∷ ys) =
    let g = greatest (y ∷ ys) in
    elim (cases_lt x g) [
      | inl l ↦ subst (Contains (x ∷ y ∷ ys)) (let e : g ≡ max x g = omega arith in e) (behind-first x g (y ∷ ys) (has_greatest y ys))
      | inr l ↦ first-of x (max x g) (y ∷ ys) (omega arith)
    ]

has_least : (x : ℕ) (xs : List ℕ) → Contains (x ∷ xs) (least (x ∷ xs))
unfolding least
has_least x [] = first-of x x [] refl
has_least x (y ∷ ys) =
    let g = least (y ∷ ys) in
    elim (cases_lt x g) [
      | inl l ↦ first-of x (min x g) (y ∷ ys) (omega arith)
      | inr l ↦ subst (Contains (x ∷ y ∷ ys)) (let e : g ≡ min x g = omega arith in e) (behind-first x g (y ∷ ys) (has_least y ys))
    ]

pub is_greatest : (c : ℕ) (r : Row) (rs : List Row) → IsGreatest c (r ∷ rs) (greatest (map (code c) (r ∷ rs)))
is_greatest c r rs = record {
  bound = All-from_recursion (λ s. code c s ≤ greatest (map (code c) (r ∷ rs))) (r ∷ rs) (none_above c (greatest (map (code c) (r ∷ rs))) (r ∷ rs) (omega arith));
  had = has_greatest (code c r) (map (code c) rs);
}

pub is_least : (c : ℕ) (r : Row) (rs : List Row) → IsLeast c (r ∷ rs) (least (map (code c) (r ∷ rs)))
is_least c r rs = record {
  bound = All-from_recursion (λ s. least (map (code c) (r ∷ rs)) ≤ code c s) (r ∷ rs) (none_below c (least (map (code c) (r ∷ rs))) (r ∷ rs) (λ e. cc) (omega arith));
  had = has_least (code c r) (map (code c) rs);
}

-- ---- outcomes and groups

item_means : (columns : List ColumnParts) (rows : List Row) → RowsRise rows → (i : CellItem) → IsOutcome columns rows i (clear_item columns i rows)
item_means columns rows h Count = refl
item_means columns rows h (Sum c) = refl
item_means columns rows h (Avg c) = refl
item_means columns [] h (Max c) = refl
item_means columns (r ∷ rs) h (Max c) = (greatest (map (code c) (r ∷ rs)), is_greatest c r rs, refl)
item_means columns [] h (Min c) = refl
item_means columns (r ∷ rs) h (Min c) = (least (map (code c) (r ∷ rs)), is_least c r rs, refl)
item_means columns rows h (TopK k s show) = record { sorted = ordered (is_better s) rows; order = falling s rows h; first = refl }

items_mean : (columns : List ColumnParts) (rows : List Row) → RowsRise rows → (is : List CellItem) → AllZip (IsOutcome columns rows) is (clear_items columns is rows)
items_mean columns rows h [] = tt
items_mean columns rows h (i ∷ is) = (item_means columns rows h i, items_mean columns rows h is)

label_means : (columns : List ColumnParts) (spec : CellSpec) (column label : ℕ) (rows l : List Row) → spec.group ≡ Some column → with_label column rows label ≡ l → RowsRise l
    → All (IsGroupOver columns spec rows) (clear_label columns spec.items label l)
label_means columns spec column label rows [] g e h = All-nil (IsGroupOver columns spec rows)
label_means columns spec column label rows (r ∷ rs) g e h =
    let one : Group = record { label = Some label; results = clear_items columns spec.items (r ∷ rs) } in
    All-cons (IsGroupOver columns spec rows) one [] (record { each = rw (g, e) (items_mean columns (r ∷ rs) h spec.items) }) (All-nil (IsGroupOver columns spec rows))

labels_mean : (columns : List ColumnParts) (spec : CellSpec) (column : ℕ) (rows : List Row) (labels : List ℕ) → spec.group ≡ Some column → RowsRise rows
    → All (IsGroupOver columns spec rows) (flat_map (λ label. clear_label columns spec.items label (with_label column rows label)) labels)
labels_mean columns spec column rows [] g h = All-nil (IsGroupOver columns spec rows)
labels_mean columns spec column rows (l ∷ ls) g h =
    All-append (IsGroupOver columns spec rows) (clear_label columns spec.items l (with_label column rows l)) (flat_map (λ label. clear_label columns spec.items label (with_label column rows label)) ls)
    (label_means columns spec column l rows (with_label column rows l) g refl (rise-filter (λ (r : Row). eqb (code column r) l) rows h))
    (labels_mean columns spec column rows ls g h)

group_means : (columns : List ColumnParts) (spec : CellSpec) (rows : List Row) (o : Option ℕ) → spec.group ≡ o → RowsRise rows → All (IsGroupOver columns spec rows) (clear_by columns spec o rows)
group_means columns spec rows None g h =
    let one : Group = record { label = None; results = clear_items columns spec.items rows } in
    All-cons (IsGroupOver columns spec rows) one [] (record { each = rw g (items_mean columns rows h spec.items) }) (All-nil (IsGroupOver columns spec rows))
group_means columns spec rows (Some column) g h = labels_mean columns spec column rows (range_with_len 0 spec.labels) g h

-- each group of a clear answer means what its items say
pub clear_means : (columns : List ColumnParts) (spec : CellSpec) (rows : List Row) → RowsRise rows → All (IsGroupOver columns spec rows) (clear columns spec rows)
clear_means columns spec rows h = group_means columns spec rows spec.group refl h
