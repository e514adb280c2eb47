-- Fields and columns, one by one.
use Rattle.std.proofs.Common.{◌≡◌, ◌≢◌, ℕ, zero, suc, ◌+◌, ◌-◌, ◌<◌, ◌≤◌, ◌==◌, true, false, ◌&&◌, List, [], ◌∷◌, ◌++◌, length, drop, get_or, Some, None, Result, Ok, Err, refl, sym, ap, ◌∙◌, arith, add-one, append_assoc, inl, inr, ◌^◌}
use Rattle.std.specs.Cmp.Lexicographic.{pointwise, unequal}
use Rattle.std.specs.Result.{OkIff, result_unwrap_or}
use Rattle.std.proofs.lemmas.Bool.{cases_lt}
use Rattle.std.specs.Str.{bytes_eq}
use Rattle.std.proofs.lemmas.List.{append-nil, drop_all}
use Rattle.std.proofs.lemmas.Bool.Decides.{nat_tests}
use Rattle.csv.specs.Records.{field_at}
use Rattle.spl_values.specs.CellTexts.{value_of_text}
use Rattle.spl_values.specs.Shapes.{ColumnParts, names_of}
use Rattle.spl_values.specs.ShapeTexts.{result_and_then}
use Rattle.spl_values.specs.declared.values.Value.{Value}
use Rattle.spl_values.specs.declared.values.ValueFault.{ValueFault}
use Rattle.csv_tables.specs.Reading.{cell_of, cells_of, row_of, row_number}
use Rattle.csv_tables.specs.declared.fault.TableFault.{TableFault}
use Rattle.csv_tables.specs.declared.fault.TableFault.TheVariants as fault

-- the fields from one on
pub field-drop : (fields : List (List ℕ)) (i : ℕ) (f : List ℕ) → Some f ≡ field_at fields i → drop i fields ≡ f ∷ drop (i + 1) fields
unfolding field_at
field-drop [] i f e = absurd cc
field-drop (g ∷ gs) zero f e = let same : f ≡ g = cc in rw same refl
field-drop (g ∷ gs) (suc i) f e = rw add-one (field-drop_suc gs i f e)
  where
    field-drop_suc : (gs : List (List ℕ)) (i : ℕ) (f : List ℕ) → Some f ≡ field_at gs i → drop i gs ≡ f ∷ drop (suc i) gs
    field-drop_suc [] i f e = absurd cc
    field-drop_suc (h ∷ hs) zero f e = let same : f ≡ h = cc in rw same refl
    field-drop_suc (h ∷ hs) (suc i) f e = field-drop_suc hs i f e

pub field-past : (fields : List (List ℕ)) (i : ℕ) → None ≡ field_at fields i → length fields ≤ i
unfolding field_at
field-past [] i e = omega arith
field-past (g ∷ gs) zero e = absurd cc
field-past (g ∷ gs) (suc i) e = let tail = field-past gs i e in omega (arith, tail)

column-drop : (columns : List ColumnParts) (i : ℕ) (c : ColumnParts) → i < length columns → c ≡ get_or columns i c → drop i columns ≡ c ∷ drop (i + 1) columns
column-drop [] i c h e = absurd (omega arith)
column-drop (d ∷ ds) zero c h e = rw e refl
column-drop (d ∷ ds) (suc i) c h e = rw add-one (column-drop_suc ds i c (omega arith) e)
  where
    column-drop_suc : (ds : List ColumnParts) (i : ℕ) (c : ColumnParts) → i < length ds → c ≡ get_or ds i c → drop i ds ≡ c ∷ drop (suc i) ds
    column-drop_suc [] i c h e = absurd (omega arith)
    column-drop_suc (d ∷ ds) zero c h e = rw e refl
    column-drop_suc (d ∷ ds) (suc i) c h e = column-drop_suc ds i c (omega arith) e

-- the fields of a header, one by one
pub header-next : (fields : List (List ℕ)) (columns : List ColumnParts) (i : ℕ) (f : List ℕ) (c : ColumnParts) → Some f ≡ field_at fields i → i < length columns → c ≡ get_or columns i c
    → pointwise bytes_eq (drop i fields) (names_of (drop i columns)) ≡ (bytes_eq f c.name && pointwise bytes_eq (drop (i + 1) fields) (names_of (drop (i + 1) columns)))
header-next fields columns i f c e h g = rw (field-drop fields i f e, column-drop columns i c h g) refl

pub header-end : (fields : List (List ℕ)) (columns : List ColumnParts) (i : ℕ) → length fields ≡ length columns → length columns ≤ i → pointwise bytes_eq (drop i fields) (names_of (drop i columns)) ≡ true
header-end fields columns i e h = rw (drop_all i fields (omega arith), drop_all i columns h) refl

length-names : (columns : List ColumnParts) → length (names_of columns) ≡ length columns
length-names [] = refl
length-names (c ∷ cs) = ap suc (length-names cs)

pub header-other : (fields : List (List ℕ)) (columns : List ColumnParts) → length fields ≢ length columns → pointwise bytes_eq fields (names_of columns) ≡ false
header-other fields columns h = unequal bytes_eq fields (names_of columns) (λ e. h (e ∙ length-names columns))

-- what is read behind values that were read
abbrev pub with_front : List Value → Result (List Value) TableFault → Result (List Value) TableFault
with_front front (Ok vs) = Ok (front ++ vs)
with_front front (Err f) = Err f

with_front-none : (r : Result (List Value) TableFault) → with_front [] r ≡ r
with_front-none (Ok vs) = refl
with_front-none (Err f) = refl

with_front-push : (front : List Value) (v : Value) (r : Result (List Value) TableFault) → with_front front (result_and_then (λ vs. Ok (v ∷ vs)) r) ≡ with_front (front ++ v ∷ []) r
with_front-push front v (Ok vs) = ap Ok (sym (append_assoc front (v ∷ []) vs))
with_front-push front v (Err f) = refl

-- the cells of a row, one by one
pub cells-start : (n : ℕ) (columns : List ColumnParts) (fields : List (List ℕ)) → cells_of n 0 columns fields ≡ with_front [] (cells_of n 0 columns fields)
cells-start n columns fields = sym (with_front-none (cells_of n 0 columns fields))

cells-cons : (n i : ℕ) (c : ColumnParts) (cs : List ColumnParts) (f : List ℕ) (fs : List (List ℕ)) (v : Value) → cell_of n i (value_of_text c.kind f) ≡ Ok v
    → cells_of n i (c ∷ cs) (f ∷ fs) ≡ result_and_then (λ vs. Ok (v ∷ vs)) (cells_of n (i + 1) cs fs)
unfolding cells_of
cells-cons n i c cs f fs v e = rw e refl

cells-bad : (n i : ℕ) (c : ColumnParts) (cs : List ColumnParts) (f : List ℕ) (fs : List (List ℕ)) (x : TableFault) → cell_of n i (value_of_text c.kind f) ≡ Err x → cells_of n i (c ∷ cs) (f ∷ fs) ≡ Err x
unfolding cells_of
cells-bad n i c cs f fs x e = rw e refl

cells-none : (n i : ℕ) → cells_of n i [] [] ≡ Ok []
unfolding cells_of
cells-none n i = refl

pub cells-next : (n : ℕ) (columns : List ColumnParts) (fields : List (List ℕ)) (i : ℕ) (front : List Value) (f : List ℕ) (c : ColumnParts) (v : Value)
    → Some f ≡ field_at fields i → i < length columns → c ≡ get_or columns i c → cell_of n i (value_of_text c.kind f) ≡ Ok v
    → cells_of n 0 columns fields ≡ with_front front (cells_of n i (drop i columns) (drop i fields))
    → cells_of n 0 columns fields ≡ with_front (front ++ v ∷ []) (cells_of n (i + 1) (drop (i + 1) columns) (drop (i + 1) fields))
cells-next n columns fields i front f c v e h g good whole =
    whole ∙ ap (λ fs. with_front front (cells_of n i (drop i columns) fs)) (field-drop fields i f e)
    ∙ ap (λ cs. with_front front (cells_of n i cs (f ∷ drop (i + 1) fields))) (column-drop columns i c h g)
    ∙ ap (with_front front) (cells-cons n i c (drop (i + 1) columns) f (drop (i + 1) fields) v good)
    ∙ with_front-push front v (cells_of n (i + 1) (drop (i + 1) columns) (drop (i + 1) fields))

pub cells-fault : (n : ℕ) (columns : List ColumnParts) (fields : List (List ℕ)) (i : ℕ) (front : List Value) (f : List ℕ) (c : ColumnParts) (x : TableFault)
    → Some f ≡ field_at fields i → i < length columns → c ≡ get_or columns i c → cell_of n i (value_of_text c.kind f) ≡ Err x
    → cells_of n 0 columns fields ≡ with_front front (cells_of n i (drop i columns) (drop i fields))
    → cells_of n 0 columns fields ≡ Err x
cells-fault n columns fields i front f c x e h g bad whole =
    whole ∙ ap (λ fs. with_front front (cells_of n i (drop i columns) fs)) (field-drop fields i f e)
    ∙ ap (λ cs. with_front front (cells_of n i cs (f ∷ drop (i + 1) fields))) (column-drop columns i c h g)
    ∙ ap (with_front front) (cells-bad n i c (drop (i + 1) columns) f (drop (i + 1) fields) x bad)

pub cells-end : (n : ℕ) (columns : List ColumnParts) (fields : List (List ℕ)) (i : ℕ) (front : List Value) → length fields ≡ length columns → length columns ≤ i
    → cells_of n 0 columns fields ≡ with_front front (cells_of n i (drop i columns) (drop i fields)) → cells_of n 0 columns fields ≡ Ok front
cells-end n columns fields i front e h whole =
    whole ∙ ap (λ fs. with_front front (cells_of n i (drop i columns) fs)) (drop_all i fields (omega arith))
    ∙ ap (λ cs. with_front front (cells_of n i cs [])) (drop_all i columns h) ∙ ap (with_front front) (cells-none n i) ∙ ap Ok (append-nil front)

-- the row of a record
pub row-short : (n : ℕ) (columns : List ColumnParts) (fields : List (List ℕ)) → length fields ≢ length columns → row_of n columns fields ≡ Err (fault.RowLength (row_number n))
unfolding row_of
row-short n columns fields h = let test : (length fields == length columns) ≡ false = grind (arith, nat_tests) in rw test refl

pub row-full : (n : ℕ) (columns : List ColumnParts) (fields : List (List ℕ)) → length fields ≡ length columns → row_of n columns fields ≡ cells_of n 0 columns fields
unfolding row_of
row-full n columns fields h = let test : (length fields == length columns) ≡ true = grind (arith, nat_tests) in rw test refl

-- a row number, as it is kept
pub row_number-capped : {E : Type 0} (r : Result ℕ E) (n : ℕ) → OkIff r (n < 2 ^ 32) n → result_unwrap_or r (2 ^ 32 - 1) ≡ row_number n
row_number-capped (Ok m) n h = omega (arith, h.0, h.1)
row_number-capped (Err e) n h = elim (cases_lt n (2 ^ 32)) [ inl lt ↦ absurd (h lt) | inr ge ↦ omega arith ]

-- a row number that is kept names the same cell
pub cell-same : (n row i : ℕ) (r : Result Value ValueFault) → row ≡ row_number n → cell_of row i r ≡ cell_of n i r
cell-same n row i (Ok v) e = refl
cell-same n row i (Err f) e = let same : row_number row ≡ row_number n = omega (arith, e) in ap (λ m. Err (fault.BadCell m i f)) same
