-- What the words of cells are, place by place.
use Rattle.std.proofs.Common.{◌≡◌, ℕ, zero, suc, ◌+◌, ◌-◌, ◌*◌, ◌%◌, ◌<◌, ◌≤◌, List, [], ◌∷◌, ◌++◌, length, drop, get_or, refl, sym, ap, subst, ◌∙◌, arith}
use Rattle.std.specs.Prelude.{All}
use Rattle.std.specs.List.{AllByRecursion, flat_map, range_with_len}
use Rattle.std.proofs.lemmas.List.{drop_more, drop_all, get_or_append_left, get_or-append_right, length-append}
use Rattle.std.proofs.lemmas.List.Elements.{recursion_from_All}
use Rattle.spl_values.specs.Shapes.{ColumnParts}
use Rattle.cell_merge.specs.declared.spec.CellItem.{CellItem}
use Rattle.cell_merge.specs.declared.spec.CellItem.TheVariants.{Count, Sum, Avg, Max, Min, TopK}
use Rattle.cell_merge.specs.Cells.{block_width, item_width, items_width}
use Rattle.cell_merge.specs.TableRows.{HasColumns}
use Rattle.combiner.specs.declared.checking.WordKind.{WordKind}
use Rattle.combiner.specs.declared.checking.WordKind.TheVariants as kind
use Rattle.combiner.specs.GoodWords.{item_kinds, block_kinds}

-- what the words of the best rows are
abbrev pub top_kinds : ℕ → ℕ → ℕ → ℕ → List WordKind
top_kinds s h l k = flat_map (λ i. kind.Rows ∷ kind.Code s ∷ kind.Code h ∷ []) (range_with_len l k)

length-top_kinds : (s h l k : ℕ) → length (top_kinds s h l k) ≡ 3 * k
length-top_kinds s h l zero = refl
length-top_kinds s h l (suc k) = let e = length-top_kinds s h (l + 1) k in omega arith

pub length-item_kinds : (i : CellItem) → length (item_kinds i) ≡ item_width i
length-item_kinds Count = refl
length-item_kinds (Sum c) = refl
length-item_kinds (Avg c) = refl
length-item_kinds (Max c) = refl
length-item_kinds (Min c) = refl
length-item_kinds (TopK k s h) = length-top_kinds s h 0 k

pub length-items_kinds : (is : List CellItem) → length (flat_map item_kinds is) ≡ items_width is
unfolding items_width
length-items_kinds [] = refl
length-items_kinds (i ∷ is) =
    let e = length-append (item_kinds i) (flat_map item_kinds is) in
    let f = length-item_kinds i in
    let g = length-items_kinds is in
    omega arith

pub length-block_kinds : (is : List CellItem) → length (block_kinds is) ≡ block_width is
length-block_kinds is = let e = length-items_kinds is in omega arith

-- ---- in an item

pub top_place : (s h l k p : ℕ) → p < 3 * k → p % 3 ≡ 0 → kind.Rows ≡ get_or (top_kinds s h l k) p kind.Sum
top_place s h l zero p b e = absurd (omega arith)
top_place s h l (suc k) zero b e = refl
top_place s h l (suc k) (suc zero) b e = absurd (omega arith)
top_place s h l (suc k) (suc (suc zero)) b e = absurd (omega arith)
top_place s h l (suc k) (suc (suc (suc p))) b e = top_place s h (l + 1) k p (omega arith) (omega arith)

pub top_sort : (s h l k p : ℕ) → p < 3 * k → p % 3 ≡ 1 → kind.Code s ≡ get_or (top_kinds s h l k) p kind.Sum
top_sort s h l zero p b e = absurd (omega arith)
top_sort s h l (suc k) zero b e = absurd (omega arith)
top_sort s h l (suc k) (suc zero) b e = refl
top_sort s h l (suc k) (suc (suc zero)) b e = absurd (omega arith)
top_sort s h l (suc k) (suc (suc (suc p))) b e = top_sort s h (l + 1) k p (omega arith) (omega arith)

pub top_show : (s h l k p : ℕ) → p < 3 * k → 2 ≤ p % 3 → kind.Code h ≡ get_or (top_kinds s h l k) p kind.Sum
top_show s h l zero p b e = absurd (omega arith)
top_show s h l (suc k) zero b e = absurd (omega arith)
top_show s h l (suc k) (suc zero) b e = absurd (omega arith)
top_show s h l (suc k) (suc (suc zero)) b e = refl
top_show s h l (suc k) (suc (suc (suc p))) b e = top_show s h (l + 1) k p (omega arith) (omega arith)

pub word_place : (x : WordKind) (p : ℕ) → p < 1 → x ≡ get_or (x ∷ []) p kind.Sum
word_place x zero b = refl
word_place x (suc p) b = absurd (omega arith)

-- ---- in some items

-- a place in the first of those that are left
pub item_here : (is : List CellItem) (i p : ℕ) (d : CellItem) → i < length is → p < item_width (get_or is i d)
    → get_or (flat_map item_kinds (drop i is)) p kind.Sum ≡ get_or (item_kinds (get_or is i d)) p kind.Sum
item_here is i p d at here =
    let t = get_or is i d in
    let width = length-item_kinds t in
    ap (λ (l : List CellItem). get_or (flat_map item_kinds l) p kind.Sum) (drop_more is i d at)
    ∙ get_or_append_left (item_kinds t) (flat_map item_kinds (drop (i + 1) is)) kind.Sum p (omega arith)

-- a place behind it
pub item_behind : (is : List CellItem) (i p : ℕ) (d : CellItem) → i < length is → item_width (get_or is i d) ≤ p
    → get_or (flat_map item_kinds (drop i is)) p kind.Sum ≡ get_or (flat_map item_kinds (drop (i + 1) is)) (p - item_width (get_or is i d)) kind.Sum
item_behind is i p d at behind =
    let t = get_or is i d in
    ap (λ (l : List CellItem). get_or (flat_map item_kinds l) p kind.Sum) (drop_more is i d at)
    ∙ get_or-append_right (item_kinds t) (flat_map item_kinds (drop (i + 1) is)) (item_width t) p kind.Sum (length-item_kinds t) behind

pub no_item : (is : List CellItem) (i p : ℕ) → length is ≤ i → get_or (flat_map item_kinds (drop i is)) p kind.Sum ≡ kind.Sum
no_item is i p end = ap (λ (l : List CellItem). get_or (flat_map item_kinds l) p kind.Sum) (drop_all i is end)

-- ---- their columns

-- the column of a code is there
abbrev pub InColumns : List ColumnParts → WordKind → Type 0
InColumns columns kind.Rows = Unit {0}
InColumns columns (kind.Code c) = c < length columns
InColumns columns kind.Sum = Unit {0}

pub each-append : {A : Type 0} (P : A → Type 0) (a b : List A) → AllByRecursion P a → AllByRecursion P b → AllByRecursion P (a ++ b)
each-append P [] b p q = q
each-append P (x ∷ a) b p q = (p.0, each-append P a b p.1 q)

each-get_or : {A : Type 0} (P : A → Type 0) (l : List A) (i : ℕ) (d : A) → P d → AllByRecursion P l → P (get_or l i d)
each-get_or P [] i d p h = p
each-get_or P (x ∷ l) zero d p h = h.0
each-get_or P (x ∷ l) (suc i) d p h = each-get_or P l i d p h.1

top_in_columns : (columns : List ColumnParts) (s h l k : ℕ) → s < length columns → h < length columns → AllByRecursion (InColumns columns) (top_kinds s h l k)
top_in_columns columns s h l zero a b = tt
top_in_columns columns s h l (suc k) a b = (tt, (a, (b, top_in_columns columns s h (l + 1) k a b)))

item_in_columns : (columns : List ColumnParts) (i : CellItem) → HasColumns columns i → AllByRecursion (InColumns columns) (item_kinds i)
item_in_columns columns Count has = tt
item_in_columns columns (Sum c) has = (tt, tt)
item_in_columns columns (Avg c) has = (tt, tt)
item_in_columns columns (Max c) has = (has, tt)
item_in_columns columns (Min c) has = (has, tt)
item_in_columns columns (TopK k s h) has = top_in_columns columns s h 0 k has.0 has.1

pub items_in_columns : (columns : List ColumnParts) (is : List CellItem) → AllByRecursion (HasColumns columns) is → AllByRecursion (InColumns columns) (flat_map item_kinds is)
items_in_columns columns [] has = tt
items_in_columns columns (i ∷ is) has =
    each-append (InColumns columns) (item_kinds i) (flat_map item_kinds is) (item_in_columns columns i has.0) (items_in_columns columns is has.1)

pub block_in_columns : (columns : List ColumnParts) (is : List CellItem) (p c : ℕ) → All (HasColumns columns) is → kind.Code c ≡ get_or (block_kinds is) p kind.Sum → c < length columns
block_in_columns columns is p c has e =
    let each = items_in_columns columns is (recursion_from_All (HasColumns columns) is has) in
    subst (InColumns columns) (sym e) (each-get_or (InColumns columns) (block_kinds is) p kind.Sum tt (tt, each))
