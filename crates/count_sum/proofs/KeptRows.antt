-- The kept rows of a table, found row by row.
use Rattle.std.proofs.Common.{◌≡◌, ℕ, zero, suc, ◌+◌, ◌<◌, ◌≤◌, Bool, true, false, ◌&&◌, cond, List, [], ◌∷◌, ◌++◌, length, map, take, get_or, refl, ap, sym, ◌∙◌, arith, length-append}
use Rattle.std.specs.List.{filter, list_all, range_with_len}
use Rattle.std.proofs.lemmas.List.{append-nil, take_all, take_more}
use Rattle.std.proofs.lemmas.List.Elements.{filter-append}
use Rattle.std.proofs.lemmas.List.Folds.{list_all-append}
use Rattle.std.proofs.lemmas.List.FromFn.{map-range_with_len_more}
use Rattle.spl_values.specs.Tables.{IsTable, TableParts}
use Rattle.cell_merge.specs.Rows.{Row}
use Rattle.cell_merge.specs.TableRows.{row_in, rows_of}
use Rattle.query_reader.specs.declared.checked.Checked.{Checked}
use Rattle.query_reader.specs.Matching.{is_kept, kept_rows}

-- the rows of a table up to one
abbrev pub rows_to : TableParts → ℕ → List Row
rows_to t n = map (row_in t) (range_with_len 0 n)

pub rows_to-more : (t : TableParts) (n : ℕ) → rows_to t (n + 1) ≡ rows_to t n ++ row_in t n ∷ []
rows_to-more t n = map-range_with_len_more (row_in t) 0 n n (omega arith)

pub rows_to-all : (t : TableParts) (n : ℕ) → IsTable t → n ≡ t.shape.rows → rows_to t n ≡ rows_of t
rows_to-all t n table all = ap (rows_to t) (all ∙ sym table.count)

-- ---- one more row

filter-one : (p : Row → Bool) (r : Row) (b : Bool) → p r ≡ b → filter p (r ∷ []) ≡ cond b (r ∷ []) []
filter-one p r b e = ap (λ t. cond t (r ∷ []) []) e

pub filter-kept : (p : Row → Bool) (rows : List Row) (r : Row) → p r ≡ true → filter p (rows ++ r ∷ []) ≡ filter p rows ++ r ∷ []
filter-kept p rows r e = filter-append p rows (r ∷ []) ∙ ap (λ l. filter p rows ++ l) (filter-one p r true e)

pub filter-left_out : (p : Row → Bool) (rows : List Row) (r : Row) → p r ≡ false → filter p (rows ++ r ∷ []) ≡ filter p rows
filter-left_out p rows r e = filter-append p rows (r ∷ []) ∙ (ap (λ l. filter p rows ++ l) (filter-one p r false e) ∙ append-nil (filter p rows))

-- ---- how many are kept

abbrev pub kept_to : Checked → TableParts → ℕ → ℕ
kept_to checked t n = length (filter (is_kept checked.public) (rows_to t n))

pub count-kept : (checked : Checked) (t : TableParts) (n k m : ℕ) → is_kept checked.public (row_in t n) ≡ true → k ≡ kept_to checked t n → m ≡ k + 1 → m ≡ kept_to checked t (n + 1)
count-kept checked t n k m e is more =
    let p = is_kept checked.public in
    let longer : kept_to checked t (n + 1) ≡ length (filter p (rows_to t n)) + 1 =
    ap (λ l. length (filter p l)) (rows_to-more t n) ∙ (ap (λ l. length l) (filter-kept p (rows_to t n) (row_in t n) e) ∙ length-append (filter p (rows_to t n)) (row_in t n ∷ [])) in
    omega arith

pub count-left_out : (checked : Checked) (t : TableParts) (n k : ℕ) → is_kept checked.public (row_in t n) ≡ false → k ≡ kept_to checked t n → k ≡ kept_to checked t (n + 1)
count-left_out checked t n k e is =
    let p = is_kept checked.public in
    is ∙ sym (ap (λ l. length (filter p l)) (rows_to-more t n) ∙ ap (λ l. length l) (filter-left_out p (rows_to t n) (row_in t n) e))

pub count-all : (checked : Checked) (t : TableParts) (n k : ℕ) → IsTable t → n ≡ t.shape.rows → k ≡ kept_to checked t n → k ≡ length (kept_rows checked t)
count-all checked t n k table all is = is ∙ ap (λ l. length (filter (is_kept checked.public) l)) (rows_to-all t n table all)

-- ---- tests of each item

and_false : (b : Bool) → (b && false) ≡ false
and_false true = refl
and_false false = refl

pub one_fails : {A : Type 0} (p : A → Bool) (xs : List A) (i : ℕ) (d : A) → i < length xs → p (get_or xs i d) ≡ false → list_all p xs ≡ false
one_fails p [] i d h e = absurd (omega arith)
one_fails p (x ∷ xs) zero d h e = ap (λ b. b && list_all p xs) e
one_fails p (x ∷ xs) (suc i) d h e = ap (λ b. p x && b) (one_fails p xs i d (omega arith) e) ∙ and_false (p x)

and_true : (a b : Bool) → a ≡ true → b ≡ true → (a && (b && true)) ≡ true
and_true a b p q = cc

pub one_more_passes : {A : Type 0} (p : A → Bool) (xs : List A) (i : ℕ) (d : A) → i < length xs → list_all p (take i xs) ≡ true → p (get_or xs i d) ≡ true → list_all p (take (i + 1) xs) ≡ true
one_more_passes p xs i d h all one =
    ap (list_all p) (take_more xs i d h)
    ∙ (list_all-append p (take i xs) (get_or xs i d ∷ []) ∙ and_true (list_all p (take i xs)) (p (get_or xs i d)) all one)

pub all_pass : {A : Type 0} (p : A → Bool) (xs : List A) (i : ℕ) → length xs ≤ i → list_all p (take i xs) ≡ true → list_all p xs ≡ true
all_pass p xs i h all = sym (ap (list_all p) (take_all i xs h)) ∙ all
