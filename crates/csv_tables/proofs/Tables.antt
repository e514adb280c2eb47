-- The table of rows that were read.
use Rattle.std.proofs.Common.{◌≡◌, ◌≢◌, ℕ, suc, ◌+◌, ◌*◌, ◌==◌, Bool, true, false, cond, List, [], ◌∷◌, ◌++◌, length, take, drop, Result, Ok, Err, refl, sym, ap, subst, ◌∙◌, arith, length-append, All}
use Rattle.std.proofs.lemmas.List.{take_all, take_at, drop_at}
use Rattle.std.proofs.lemmas.List.Elements.{All-head, All-tail, All-nil, All-cons}
use Rattle.std.proofs.lemmas.Bool.Decides.{nat_tests}
use Rattle.std.proofs.Math.Nat.{add-mul, zero-mul}
use Rattle.spl_values.specs.CellTexts.{value_of_text}
use Rattle.std.specs.Cmp.Lexicographic.{pointwise}
use Rattle.std.specs.Str.{bytes_eq}
use Rattle.spl_values.specs.Shapes.{ColumnParts, ShapeParts, IsColumn, IsShape, names_of}
use Rattle.spl_values.specs.ShapeTexts.{result_and_then}
use Rattle.spl_values.specs.Tables.{FitsRow, IsTable, rows_of_cells}
use Rattle.spl_values.specs.declared.values.Value.{Value}
use Rattle.spl_values.specs.declared.values.ValueFault.{ValueFault}
use Rattle.spl_values.proofs.CellLaws.{read_values_fit}
use Rattle.csv_tables.specs.Reading.{cell_of, cells_of, row_of, row_number, rows_of, rows_under_header, if_count, joined, table_of_text, records_of}
use Rattle.csv_tables.specs.declared.fault.TableFault.{TableFault}
use Rattle.csv_tables.specs.declared.fault.TableFault.TheVariants as fault

-- the cells of a row fit their columns
cells_fit : (n i : ℕ) (cs : List ColumnParts) (fs : List (List ℕ)) (vs : List Value) → All IsColumn cs → length fs ≡ length cs → cells_of n i cs fs ≡ Ok vs → FitsRow cs vs
unfolding cells_of
cells_fit n i [] [] vs typed len e = let none : [] ≡ vs = cc in subst (λ (ws : List Value). FitsRow [] ws) none tt
cells_fit n i [] (f ∷ fs) vs typed len e = absurd (omega arith)
cells_fit n i (c ∷ cs) [] vs typed len e = absurd (omega arith)
cells_fit n i (c ∷ cs) (f ∷ fs) vs typed len e = by_value (value_of_text c.kind f) refl (cells_of n (i + 1) cs fs) refl e
    (λ ws g. cells_fit n (i + 1) cs fs ws (All-tail IsColumn c cs typed) (omega arith) g)
  where
    by_value : (r : Result Value ValueFault) → value_of_text c.kind f ≡ r → (rest : Result (List Value) TableFault) → cells_of n (i + 1) cs fs ≡ rest
        → result_and_then (λ v. result_and_then (λ ws. Ok (v ∷ ws)) rest) (cell_of n i r) ≡ Ok vs
        → ((ws : List Value) → cells_of n (i + 1) cs fs ≡ Ok ws → FitsRow cs ws) → FitsRow (c ∷ cs) vs
    by_value (Ok v) g (Ok ws) h k again =
        let same : v ∷ ws ≡ vs = cc in
        subst (λ (xs : List Value). FitsRow (c ∷ cs) xs) same (read_values_fit c.kind f v (All-head IsColumn c cs typed).typed g, again ws h)
    by_value (Ok v) g (Err x) h k again = absurd cc
    by_value (Err x) g rest h k again = absurd cc

row_fits : (n : ℕ) (cs : List ColumnParts) (fs : List (List ℕ)) (vs : List Value) → All IsColumn cs → row_of n cs fs ≡ Ok vs → FitsRow cs vs
unfolding row_of
row_fits n cs fs vs typed e = by_length (length fs == length cs) refl e
  where
    by_length : (t : Bool) → (length fs == length cs) ≡ t → cond t (cells_of n 0 cs fs) (Err (fault.RowLength (row_number n))) ≡ Ok vs → FitsRow cs vs
    by_length true h k = let len : length fs ≡ length cs = grind (arith, nat_tests) in cells_fit n 0 cs fs vs typed len k
    by_length false h k = absurd cc

rows_fit : (records : List (List (List ℕ))) (n : ℕ) (cs : List ColumnParts) (rows : List (List Value)) → All IsColumn cs → rows_of n cs records ≡ Ok rows → All (FitsRow cs) rows
unfolding rows_of
rows_fit [] n cs rows typed e = let none : [] ≡ rows = cc in subst (λ (rs : List (List Value)). All (FitsRow cs) rs) none (All-nil (FitsRow cs))
rows_fit (fs ∷ rest) n cs rows typed e = by_row (row_of n cs fs) refl (rows_of (n + 1) cs rest) refl e (λ rs g. rows_fit rest (n + 1) cs rs typed g)
  where
    by_row : (r : Result (List Value) TableFault) → row_of n cs fs ≡ r → (more : Result (List (List Value)) TableFault) → rows_of (n + 1) cs rest ≡ more
        → result_and_then (λ v. result_and_then (λ rs. Ok (v ∷ rs)) more) r ≡ Ok rows
        → ((rs : List (List Value)) → rows_of (n + 1) cs rest ≡ Ok rs → All (FitsRow cs) rs) → All (FitsRow cs) rows
    by_row (Ok v) g (Ok rs) h k again =
        let same : v ∷ rs ≡ rows = cc in
        subst (λ (xs : List (List Value)). All (FitsRow cs) xs) same (All-cons (FitsRow cs) v rs (row_fits n cs fs v typed g) (again rs h))
    by_row (Ok v) g (Err x) h k again = absurd cc
    by_row (Err x) g more h k again = absurd cc

pub rows_read_fit : (columns : List ColumnParts) (records : List (List (List ℕ))) (rows : List (List Value)) → All IsColumn columns → rows_under_header columns records ≡ Ok rows → All (FitsRow columns) rows
unfolding rows_under_header
rows_read_fit columns [] rows typed e = absurd cc
rows_read_fit columns (header ∷ rest) rows typed e = by_header (pointwise bytes_eq header (names_of columns)) e
  where
    by_header : (t : Bool) → cond t (rows_of 0 columns rest) (Err fault.BadHeader) ≡ Ok rows → All (FitsRow columns) rows
    by_header true k = rows_fit rest 0 columns rows typed k
    by_header false k = absurd cc

-- rows of one width, joined and parted again
row_length : (cs : List ColumnParts) (vs : List Value) → FitsRow cs vs → length vs ≡ length cs
row_length [] [] h = refl
row_length [] (v ∷ vs) h = absurd h
row_length (c ∷ cs) [] h = absurd h
row_length (c ∷ cs) (v ∷ vs) h = ap suc (row_length cs vs h.1)

pub length-joined : (cs : List ColumnParts) (rows : List (List Value)) → All (FitsRow cs) rows → length (joined rows) ≡ length rows * length cs
unfolding joined
length-joined cs [] h = sym (zero-mul (length cs))
length-joined cs (row ∷ rows) h =
    let one = row_length cs row (All-head (FitsRow cs) row rows h) in
    let rest = length-joined cs rows (All-tail (FitsRow cs) row rows h) in
    let both = length-append row (joined rows) in
    let split : (length rows + 1) * length cs ≡ length rows * length cs + 1 * length cs = add-mul (length rows) 1 (length cs) in
    omega (arith, one, rest, both, split)

pub parted : (cs : List ColumnParts) (rows : List (List Value)) → All (FitsRow cs) rows → rows_of_cells (length cs) (length rows) (joined rows) ≡ rows
unfolding joined rows_of_cells
parted cs [] h = refl
parted cs (row ∷ rows) h =
    let one = row_length cs row (All-head (FitsRow cs) row rows h) in
    let first : take (length cs) (row ++ joined rows) ≡ row = take_at row (joined rows) (length cs) one in
    let rest : drop (length cs) (row ++ joined rows) ≡ joined rows = drop_at row (joined rows) (length cs) one in
    rw (first, rest, parted cs rows (All-tail (FitsRow cs) row rows h)) refl

-- what a reading of as many rows as stated gives
pub record Whole (shape : ShapeParts) (text : List ℕ) (cells : List Value) (rows : List (List Value)) : Type 0 where
  pub size : length cells ≡ shape.rows * length shape.schema.columns
  pub parts : rows_of_cells (length shape.schema.columns) shape.rows cells ≡ rows
  pub table : IsTable (record { shape = shape; rows = rows })
  pub says : table_of_text shape text ≡ Ok rows

pub whole_of : (shape : ShapeParts) (text : List ℕ) (cells : List Value) (rows : List (List Value)) (found : ℕ) → IsShape shape
    → rows_under_header shape.schema.columns (records_of text) ≡ Ok rows → length rows ≡ found → cells ≡ take (shape.rows * length shape.schema.columns) (joined rows) → found ≡ shape.rows → Whole shape text cells rows
whole_of shape text cells rows found valid e count kept stated =
    let fit = rows_read_fit shape.schema.columns (records_of text) rows valid.schema.columns e in
    let size = length-joined shape.schema.columns rows fit in
    let as_many : length rows ≡ shape.rows = count ∙ stated in
    let most : length (joined rows) ≡ shape.rows * length shape.schema.columns = size ∙ ap (λ n. n * length shape.schema.columns) as_many in
    let all : cells ≡ joined rows = kept ∙ take_all (shape.rows * length shape.schema.columns) (joined rows) (omega (arith, most)) in
    let test : (length rows == shape.rows) ≡ true = grind (arith, nat_tests) in
    record {
      size = ap length all ∙ most;
      parts = ap (rows_of_cells (length shape.schema.columns) shape.rows) all ∙ ap (λ n. rows_of_cells (length shape.schema.columns) n (joined rows)) (sym as_many) ∙ parted shape.schema.columns rows fit;
      table = record { shape = valid; count = as_many; rows = fit };
      says = ap (result_and_then (if_count shape.rows)) e ∙ rw test refl;
    }

pub miscounted : (shape : ShapeParts) (text : List ℕ) (rows : List (List Value)) (found : ℕ)
    → rows_under_header shape.schema.columns (records_of text) ≡ Ok rows → length rows ≡ found → found ≢ shape.rows → table_of_text shape text ≡ Err (fault.RowCount found shape.rows)
miscounted shape text rows found e count other =
    let test : (length rows == shape.rows) ≡ false = grind (arith, nat_tests) in
    ap (result_and_then (if_count shape.rows)) e ∙ rw (test, count) refl

pub faulty : (shape : ShapeParts) (text : List ℕ) (f : TableFault) → rows_under_header shape.schema.columns (records_of text) ≡ Err f → table_of_text shape text ≡ Err f
faulty shape text f e = ap (result_and_then (if_count shape.rows)) e
