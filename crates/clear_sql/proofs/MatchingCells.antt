-- The cell of the rows that match, row by row.
use Rattle.std.proofs.Common.{◌≡◌, ℕ, zero, suc, ◌+◌, ◌<◌, ◌≤◌, ◌^◌, Bool, true, false, ◌&&◌, cond, Ok, List, [], ◌∷◌, ◌++◌, length, take, get_or, All, refl, sym, ap, subst, ◌∙◌, arith}
use Rattle.std.specs.List.{filter}
use Rattle.std.proofs.lemmas.List.{append-nil, take_more, take_all, length-take}
use Rattle.std.proofs.lemmas.List.Elements.{filter-append}
use Rattle.std.proofs.lemmas.List.FromFn.{get_or-map-range_with_len, length-map-range_with_len}
use Rattle.spl_values.specs.Tables.{TableParts, IsTable}
use Rattle.cell_merge.specs.declared.spec.CellSpec.{CellSpec}
use Rattle.cell_merge.specs.Rows.{Row, Apart}
use Rattle.cell_merge.specs.Cells.{Addends, blocks, cell, empty_cell, merge}
use Rattle.cell_merge.specs.TableRows.{adds_in, row_in, rows_of}
use Rattle.cell_merge.proofs.Lists.{each-take, Interleaves-append, length-filter-le}
use Rattle.cell_merge.proofs.Labels.{Apart-filter, cell_merge}
use Rattle.cell_merge.proofs.All.{cell_empty}
use Rattle.cell_merge.proofs.RowCells.{rows_apart}
use Rattle.query_reader.specs.declared.checked.Checked.{Checked}
use Rattle.query_reader.specs.Accepted.{IsCheckedFor}
use Rattle.query_reader.specs.Matching.{is_kept, some_branch_holds, matching_rows}
use Rattle.query_reader.proofs.Known.{checked_fits}
use Rattle.sum_bounds.specs.Bounds.{sums_bounded}
use Rattle.sum_bounds.proofs.Items.{each_bounded}
use Rattle.clear_sql.specs.AnswerText.{GroupFits}
use Rattle.clear_sql.specs.Clear.{clear}
use Rattle.clear_sql.specs.FirstRows.{first_matching}
use Rattle.clear_sql.specs.CellAnswers.{BlocksRead, answer_of}
use Rattle.clear_sql.proofs.Clear.{cell_clear}
use Rattle.clear_sql.proofs.GoodCells.{cells_read, length-cell}
use Rattle.clear_sql.proofs.Printable.{cells_printable}

filter_step : {A : Type 0} (p q : A → Bool) (t : Bool) (x : A) (xs : List A) → p x ≡ t → filter q (cond t (x ∷ filter p xs) (filter p xs)) ≡ cond (t && q x) (x ∷ filter q (filter p xs)) (filter q (filter p xs))
filter_step p q true x xs h = refl
filter_step p q false x xs h = refl

-- two filters are one, by both tests
pub filter_filter : {A : Type 0} (p q : A → Bool) (xs : List A) → filter q (filter p xs) ≡ filter (λ x. p x && q x) xs
filter_filter p q [] = refl
filter_filter p q (x ∷ xs) = filter_step p q (p x) x xs refl ∙ ap (λ l. cond (p x && q x) (x ∷ l) l) (filter_filter p q xs)

Apart-take : (k : ℕ) (rows : List Row) → Apart rows → Apart (take k rows)
Apart-take zero rows h = tt
Apart-take (suc k) [] h = tt
Apart-take (suc k) (r ∷ rs) h = (each-take (λ (s : Row). r.number ≡ s.number → ⊥) k rs h.0, Apart-take k rs h.1)

-- what a row matches by
abbrev pub row_matches : Checked → List ℕ → Row → Bool
row_matches checked params r = is_kept checked.public r && some_branch_holds checked.branches checked.columns checked.range params r

pub matching_once : (checked : Checked) (params : List ℕ) (t : TableParts) → matching_rows checked params t ≡ filter (row_matches checked params) (rows_of t)
matching_once checked params t = filter_filter (is_kept checked.public) (some_branch_holds checked.branches checked.columns checked.range params) (rows_of t)

pub length-rows_of : (t : TableParts) → length (rows_of t) ≡ length t.rows
length-rows_of t = length-map-range_with_len (row_in t) 0 (length t.rows)

no_row : Row
no_row = record { number = 0; codes = [] }

row-at : (t : TableParts) (n : ℕ) → n < length t.rows → get_or (rows_of t) n no_row ≡ row_in t n
row-at t n h = get_or-map-range_with_len (row_in t) 0 (length t.rows) n n no_row h (omega arith)

-- the cell of the matching rows up to a row
abbrev pub cell_to : (adds : Addends) (spec : CellSpec) (keeps : Row → Bool) (t : TableParts) → ℕ → List ℕ
cell_to adds spec keeps t n = cell adds spec (filter keeps (take n (rows_of t)))

pub cell_first : (adds : Addends) (spec : CellSpec) (keeps : Row → Bool) (t : TableParts) → cell_to adds spec keeps t 0 ≡ empty_cell spec
cell_first adds spec keeps t = cell_empty adds spec

pub take-next : (t : TableParts) (n : ℕ) → n < length t.rows → take (n + 1) (rows_of t) ≡ take n (rows_of t) ++ row_in t n ∷ []
take-next t n h =
    let count = length-rows_of t in
    take_more (rows_of t) n no_row (omega (arith, count)) ∙ ap (λ r. take n (rows_of t) ++ r ∷ []) (row-at t n h)

kept-next : (keeps : Row → Bool) (t : TableParts) (n : ℕ) (b : Bool) → n < length t.rows → keeps (row_in t n) ≡ b
    → filter keeps (take (n + 1) (rows_of t)) ≡ filter keeps (take n (rows_of t)) ++ cond b (row_in t n ∷ []) []
kept-next keeps t n b h e =
    ap (filter keeps) (take-next t n h)
    ∙ (filter-append keeps (take n (rows_of t)) (row_in t n ∷ []) ∙ ap (λ b. filter keeps (take n (rows_of t)) ++ cond b (row_in t n ∷ []) []) e)

-- a row that doesn't match leaves the cell
pub cell_left : (adds : Addends) (spec : CellSpec) (keeps : Row → Bool) (t : TableParts) (n : ℕ) → n < length t.rows → keeps (row_in t n) ≡ false
    → cell_to adds spec keeps t (n + 1) ≡ cell_to adds spec keeps t n
cell_left adds spec keeps t n h e = ap (cell adds spec) (kept-next keeps t n false h e ∙ append-nil (filter keeps (take n (rows_of t))))

-- a row that matches is merged in
pub cell_more : (adds : Addends) (spec : CellSpec) (keeps : Row → Bool) (t : TableParts) (n : ℕ) → n < length t.rows → length t.rows < 2 ^ 64 → keeps (row_in t n) ≡ true
    → merge spec (cell_to adds spec keeps t n) (cell adds spec (row_in t n ∷ [])) ≡ cell_to adds spec keeps t (n + 1)
cell_more adds spec keeps t n h few e =
    let old = filter keeps (take n (rows_of t)) in
    let new = old ++ row_in t n ∷ [] in
    let next : filter keeps (take (n + 1) (rows_of t)) ≡ new = kept-next keeps t n true h e in
    let apart : Apart new = subst Apart next (Apart-filter keeps (take (n + 1) (rows_of t)) (Apart-take (n + 1) (rows_of t) (rows_apart t))) in
    let short = length-filter-le keeps (take (n + 1) (rows_of t)) in
    let taken = length-take (n + 1) (rows_of t) in
    let count = length-rows_of t in
    let fits : length new < 2 ^ 64 = let same = ap length next in omega (arith, short, taken, count, same) in
    cell_merge adds spec old (row_in t n ∷ []) new (Interleaves-append old (row_in t n ∷ [])) apart fits ∙ ap (cell adds spec) (sym next)

pub cell_last : (adds : Addends) (checked : Checked) (params : List ℕ) (t : TableParts) (n : ℕ) → length t.rows ≤ n
    → cell_to adds checked.spec (row_matches checked params) t n ≡ cell adds checked.spec (matching_rows checked params t)
cell_last adds checked params t n h =
    let count = length-rows_of t in
    ap (λ rows. cell adds checked.spec (filter (row_matches checked params) rows)) (take_all n (rows_of t) (omega (arith, count)))
    ∙ ap (cell adds checked.spec) (sym (matching_once checked params t))

-- ---- the same, of the matching rows among the first

first_once : (checked : Checked) (params : List ℕ) (t : TableParts) (n : ℕ) → first_matching checked params t n ≡ filter (row_matches checked params) (take n (rows_of t))
first_once checked params t n = filter_filter (is_kept checked.public) (some_branch_holds checked.branches checked.columns checked.range params) (take n (rows_of t))

-- the cell of none
pub none_matching : (adds : Addends) (checked : Checked) (params : List ℕ) (t : TableParts) → cell adds checked.spec (first_matching checked params t 0) ≡ empty_cell checked.spec
none_matching adds checked params t = cell_empty adds checked.spec

-- a row that doesn't match
pub row_left : (adds : Addends) (checked : Checked) (params : List ℕ) (t : TableParts) (n : ℕ) → n < length t.rows → row_matches checked params (row_in t n) ≡ false
    → cell adds checked.spec (first_matching checked params t n) ≡ cell adds checked.spec (first_matching checked params t (n + 1))
row_left adds checked params t n h e =
    rw (first_once checked params t n, first_once checked params t (n + 1)) (sym (cell_left adds checked.spec (row_matches checked params) t n h e))

-- a row that matches
pub row_taken : (adds : Addends) (checked : Checked) (params : List ℕ) (t : TableParts) (n : ℕ) → n < length t.rows → length t.rows < 2 ^ 64 → row_matches checked params (row_in t n) ≡ true
    → merge checked.spec (cell adds checked.spec (first_matching checked params t n)) (cell adds checked.spec (row_in t n ∷ [])) ≡ cell adds checked.spec (first_matching checked params t (n + 1))
row_taken adds checked params t n h few e =
    rw (first_once checked params t n, first_once checked params t (n + 1)) (cell_more adds checked.spec (row_matches checked params) t n h few e)

-- all rows
pub all_matching : (adds : Addends) (checked : Checked) (params : List ℕ) (t : TableParts) (n : ℕ) → length t.rows ≤ n
    → cell adds checked.spec (first_matching checked params t n) ≡ cell adds checked.spec (matching_rows checked params t)
all_matching adds checked params t n h =
    ap (cell adds checked.spec) (first_once checked params t n) ∙ cell_last adds checked params t n h

pub matching_read : (checked : Checked) (params : List ℕ) (t : TableParts) → IsTable t → IsCheckedFor checked t.shape.schema
    → BlocksRead t.shape.schema.columns checked.spec.items (blocks checked.spec.group checked.spec.labels) (cell (adds_in t.shape.schema.columns) checked.spec (matching_rows checked params t))
matching_read checked params t table h =
    rw (matching_once checked params t) (cells_read t checked.spec (adds_in t.shape.schema.columns) (row_matches checked params) table (checked_fits checked t.shape.schema h))

pub matching_clear : (checked : Checked) (params : List ℕ) (t : TableParts) → sums_bounded t checked.spec.items ≡ Ok tt
    → answer_of t.shape.schema.columns checked.spec (cell (adds_in t.shape.schema.columns) checked.spec (matching_rows checked params t)) ≡ clear t.shape.schema.columns checked.spec (matching_rows checked params t)
matching_clear checked params t sums =
    rw (matching_once checked params t) (cell_clear t.shape.schema.columns checked.spec (rows_of t) (row_matches checked params) (each_bounded t checked.spec.items sums))

pub clear_printable : (checked : Checked) (params : List ℕ) (t : TableParts) → IsTable t → IsCheckedFor checked t.shape.schema → sums_bounded t checked.spec.items ≡ Ok tt
    → All (GroupFits t.shape.schema.columns checked.spec) (clear t.shape.schema.columns checked.spec (matching_rows checked params t))
clear_printable checked params t table h sums =
    let columns = t.shape.schema.columns in
    let words = cell (adds_in columns) checked.spec (matching_rows checked params t) in
    let printable = cells_printable columns checked.spec words (checked_fits checked t.shape.schema h) (length-cell (adds_in columns) checked.spec (matching_rows checked params t)) (matching_read checked params t table h) in
    subst (All (GroupFits columns checked.spec)) (matching_clear checked params t sums) printable
