-- A text that reads as rows is one that says them.
use Rattle.std.proofs.Common.{◌≡◌, ℕ, zero, suc, ◌+◌, ◌==◌, Bool, true, false, ◌&&◌, cond, List, [], ◌∷◌, length, drop, Some, Result, Ok, Err, refl, ap, subst, arith, slice_get}
use Rattle.std.specs.Cmp.Lexicographic.{pointwise}
use Rattle.std.specs.List.{AllZip}
use Rattle.std.specs.Str.{bytes_eq}
use Rattle.std.proofs.lemmas.Slice.Eq.{bytes_eq-Decides}
use Rattle.std.proofs.lemmas.Bool.Decides.{nat_tests}
use Rattle.spl_values.specs.CellTexts.{value_of_text}
use Rattle.spl_values.specs.Shapes.{ColumnParts, ShapeParts, names_of}
use Rattle.spl_values.specs.ShapeTexts.{result_and_then}
use Rattle.spl_values.specs.declared.values.Value.{Value}
use Rattle.spl_values.specs.declared.values.ValueFault.{ValueFault}
use Rattle.csv_tables.specs.Reading.{cell_of, cells_of, row_of, rows_of, rows_under_header, if_count, row_number, records_of, table_of_text, SaysRow, IsTableText}
use Rattle.csv_tables.specs.declared.fault.TableFault.TheVariants as fault
use Rattle.csv_tables.proofs.RoundTrip.{names_same}

-- what comes of two steps comes of both
both_ok : {A B F : Type 0} (g : A → Result B F) (r : Result A F) (b : B) → result_and_then g r ≡ Ok b → (a : A) × ((r ≡ Ok a) × (g a ≡ Ok b))
both_ok g (Ok a) b e = (a, (refl, e))
both_ok g (Err x) b e = absurd cc

-- what comes of a test comes where it passed
test_ok : {A F : Type 0} (t : Bool) (r : Result A F) (x : F) (a : A) → cond t r (Err x) ≡ Ok a → (t ≡ true) × (r ≡ Ok a)
test_ok true r x a e = (refl, e)
test_ok false r x a e = absurd cc

cell_ok : (n i : ℕ) (r : Result Value ValueFault) (v : Value) → cell_of n i r ≡ Ok v → r ≡ Ok v
cell_ok n i (Ok w) v e = let same : w ≡ v = cc in ap Ok same
cell_ok n i (Err x) v e = absurd cc

same_number : (m n : ℕ) → (m == n) ≡ true → m ≡ n
same_number m n e = grind (arith, nat_tests)

number_same : (m n : ℕ) → m ≡ n → (m == n) ≡ true
number_same m n e = grind (arith, nat_tests)

-- a row of one more column
says-none : SaysRow [] [] []
says-none = record { field_each = refl; value_each = refl; reads = λ i c f v a b d. absurd cc }

says-cons : (c : ColumnParts) (cs : List ColumnParts) (f : List ℕ) (fs : List (List ℕ)) (v : Value) (vs : List Value) → value_of_text c.kind f ≡ Ok v → SaysRow cs fs vs → SaysRow (c ∷ cs) (f ∷ fs) (v ∷ vs)
says-cons c cs f fs v vs one h = record { field_each = ap suc h.field_each; value_each = ap suc h.value_each; reads = at }
  where
    at : (i : ℕ) (d : ColumnParts) (g : List ℕ) (w : Value) → slice_get (c ∷ cs) i ≡ Some d → slice_get (f ∷ fs) i ≡ Some g → slice_get (v ∷ vs) i ≡ Some w → value_of_text d.kind g ≡ Ok w
    at zero d g w a b e =
        let column : c ≡ d = cc in
        let field : f ≡ g = cc in
        let value : v ≡ w = cc in
        rw (← column, ← field, ← value) one
    at (suc i) d g w a b e = h.reads i d g w a b e

-- fields that read as values say them
cells_say : (n i : ℕ) (cs : List ColumnParts) (fs : List (List ℕ)) (vs : List Value) → length fs ≡ length cs → cells_of n i cs fs ≡ Ok vs → SaysRow cs fs vs
unfolding cells_of
cells_say n i [] [] vs len e = let none : [] ≡ vs = cc in subst (λ (ws : List Value). SaysRow [] [] ws) none says-none
cells_say n i [] (f ∷ fs) vs len e = absurd (omega arith)
cells_say n i (c ∷ cs) [] vs len e = absurd (omega arith)
cells_say n i (c ∷ cs) (f ∷ fs) vs len e =
    let first = both_ok (λ v. result_and_then (λ ws. Ok (v ∷ ws)) (cells_of n (i + 1) cs fs)) (cell_of n i (value_of_text c.kind f)) vs e in
    let more = both_ok (λ ws. Ok (first.0 ∷ ws)) (cells_of n (i + 1) cs fs) vs first.1.1 in
    let one = cell_ok n i (value_of_text c.kind f) first.0 first.1.0 in
    let again = cells_say n (i + 1) cs fs more.0 (omega arith) more.1.0 in
    let last = more.1.1 in
    let whole : first.0 ∷ more.0 ≡ vs = cc in
    subst (λ (ws : List Value). SaysRow (c ∷ cs) (f ∷ fs) ws) whole (says-cons c cs f fs first.0 more.0 one again)

row_says : (n : ℕ) (cs : List ColumnParts) (fs : List (List ℕ)) (vs : List Value) → row_of n cs fs ≡ Ok vs → SaysRow cs fs vs
unfolding row_of
row_says n cs fs vs e =
    let passed = test_ok (length fs == length cs) (cells_of n 0 cs fs) (fault.RowLength (row_number n)) vs e in
    cells_say n 0 cs fs vs (same_number (length fs) (length cs) passed.0) passed.1

rows_say : (n : ℕ) (cs : List ColumnParts) (records : List (List (List ℕ))) (rows : List (List Value)) → rows_of n cs records ≡ Ok rows → AllZip (SaysRow cs) records rows
unfolding rows_of
rows_say n cs [] rows e = let none : [] ≡ rows = cc in subst (λ (rs : List (List Value)). AllZip (SaysRow cs) [] rs) none tt
rows_say n cs (fs ∷ rest) rows e =
    let first = both_ok (λ v. result_and_then (λ rs. Ok (v ∷ rs)) (rows_of (n + 1) cs rest)) (row_of n cs fs) rows e in
    let more = both_ok (λ rs. Ok (first.0 ∷ rs)) (rows_of (n + 1) cs rest) rows first.1.1 in
    let last = more.1.1 in
    let whole : first.0 ∷ more.0 ≡ rows = cc in
    subst (λ (rs : List (List Value)). AllZip (SaysRow cs) (fs ∷ rest) rs) whole (row_says n cs fs first.0 first.1.0, rows_say (n + 1) cs rest more.0 more.1.0)

-- names that are the same at each place
both_true : (a b : Bool) → (a && b) ≡ true → (a ≡ true) × (b ≡ true)
both_true true true e = (refl, refl)
both_true true false e = absurd cc
both_true false b e = absurd cc

names_are : (xs ys : List (List ℕ)) → pointwise bytes_eq xs ys ≡ true → xs ≡ ys
names_are [] [] e = refl
names_are [] (y ∷ ys) e = absurd cc
names_are (x ∷ xs) [] e = absurd cc
names_are (x ∷ xs) (y ∷ ys) e =
    let both = both_true (bytes_eq x y) (pointwise bytes_eq xs ys) e in
    let one : x ≡ y = (bytes_eq-Decides x y).0 both.0 in
    rw (one, names_are xs ys both.1) refl

-- the records under a header
under_says : (cs : List ColumnParts) (records : List (List (List ℕ))) (rows : List (List Value)) → rows_under_header cs records ≡ Ok rows
    → (slice_get records 0 ≡ Some (names_of cs)) × AllZip (SaysRow cs) (drop 1 records) rows
unfolding rows_under_header
under_says cs [] rows e = absurd cc
under_says cs (header ∷ rest) rows e =
    let passed = test_ok (pointwise bytes_eq header (names_of cs)) (rows_of 0 cs rest) fault.BadHeader rows e in
    (ap Some (names_are header (names_of cs) passed.0), rows_say 0 cs rest rows passed.1)

pub table_says : (text : List ℕ) (shape : ShapeParts) (rows : List (List Value)) → table_of_text shape text ≡ Ok rows → IsTableText text shape rows
table_says text shape rows e =
    let read = both_ok (if_count shape.rows) (rows_under_header shape.schema.columns (records_of text)) rows e in
    let passed = test_ok (length read.0 == shape.rows) (Ok read.0) (fault.RowCount (length read.0) shape.rows) rows read.1.1 in
    let under = under_says shape.schema.columns (records_of text) read.0 read.1.0 in
    let last = passed.1 in
    let same : read.0 ≡ rows = cc in
    subst (λ (rs : List (List Value)). IsTableText text shape rs) same (record { header = under.0; count = same_number (length read.0) shape.rows passed.0; row_each = under.1 })

-- fields that say values read as them
says_cells : (n i : ℕ) (cs : List ColumnParts) (fs : List (List ℕ)) (vs : List Value) → SaysRow cs fs vs → cells_of n i cs fs ≡ Ok vs
unfolding cells_of
says_cells n i [] [] [] h = refl
says_cells n i [] [] (v ∷ vs) h = let len = h.value_each in absurd (omega arith)
says_cells n i [] (f ∷ fs) vs h = let len = h.field_each in absurd (omega arith)
says_cells n i (c ∷ cs) [] vs h = let len = h.field_each in absurd (omega arith)
says_cells n i (c ∷ cs) (f ∷ fs) [] h = let len = h.value_each in absurd (omega arith)
says_cells n i (c ∷ cs) (f ∷ fs) (v ∷ vs) h =
    let fields = h.field_each in
    let values = h.value_each in
    let one : value_of_text c.kind f ≡ Ok v = h.reads 0 c f v refl refl refl in
    let more = says_cells n (i + 1) cs fs vs (record { field_each = omega arith; value_each = omega arith; reads = λ j d g w a b e. h.reads (suc j) d g w a b e }) in
    rw (one, more) refl

says_row : (n : ℕ) (cs : List ColumnParts) (fs : List (List ℕ)) (vs : List Value) → SaysRow cs fs vs → row_of n cs fs ≡ Ok vs
unfolding row_of
says_row n cs fs vs h =
    let test = number_same (length fs) (length cs) h.field_each in
    rw test (says_cells n 0 cs fs vs h)

says_rows : (n : ℕ) (cs : List ColumnParts) (records : List (List (List ℕ))) (rows : List (List Value)) → AllZip (SaysRow cs) records rows → rows_of n cs records ≡ Ok rows
unfolding rows_of
says_rows n cs [] [] h = refl
says_rows n cs [] (row ∷ rows) h = absurd h
says_rows n cs (fs ∷ rest) [] h = absurd h
says_rows n cs (fs ∷ rest) (row ∷ rows) h =
    let one = says_row n cs fs row h.0 in
    let more = says_rows (n + 1) cs rest rows h.1 in
    rw (one, more) refl

says_under : (cs : List ColumnParts) (records : List (List (List ℕ))) (rows : List (List Value)) → slice_get records 0 ≡ Some (names_of cs) → AllZip (SaysRow cs) (drop 1 records) rows
    → rows_under_header cs records ≡ Ok rows
unfolding rows_under_header
says_under cs [] rows e h = absurd cc
says_under cs (header ∷ rest) rows e h =
    let same : header ≡ names_of cs = cc in
    let test : pointwise bytes_eq header (names_of cs) ≡ true = rw same (names_same (names_of cs)) in
    rw test (says_rows 0 cs rest rows h)

pub says_table : (text : List ℕ) (shape : ShapeParts) (rows : List (List Value)) → IsTableText text shape rows → table_of_text shape text ≡ Ok rows
says_table text shape rows h =
    let under = says_under shape.schema.columns (records_of text) rows h.header h.row_each in
    let test = number_same (length rows) shape.rows h.count in
    rw (under, test) refl
