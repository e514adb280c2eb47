-- The cells of the keys, from the sorted rows.
use Rattle.std.proofs.Common.{◌≡◌, ℕ, suc, ◌+◌, ◌^◌, ◌<◌, ◌≤◌, Bool, true, false, cond, eqb, ltb, List, [], ◌∷◌, length, map, refl, ap, sym, subst, ◌∙◌, arith}
use Rattle.std.specs.Prelude.{All}
use Rattle.std.specs.List.{AllByRecursion, filter, range_with_len}
use Rattle.std.specs.List.Sorted.{IsNonDecreasingBy}
use Rattle.std.proofs.lemmas.List.{length-map}
use Rattle.std.proofs.lemmas.List.FromFn.{length-range_with_len}
use Rattle.spl_words.specs.Rising.{put_number, rising}
use Rattle.spl_words.proofs.Rising.{any-rising}
use Rattle.spl_values.specs.Tables.{IsTable, TableParts, key_bits}
use Rattle.cell_merge.specs.Rows.{Row, Apart}
use Rattle.cell_merge.specs.Cells.{cell}
use Rattle.cell_merge.specs.TableRows.{adds_in, row_in, rows_of}
use Rattle.cell_merge.proofs.Lists.{each-map, each_weaker, length-filter-le}
use Rattle.query_reader.specs.declared.checked.Checked.{Checked}
use Rattle.query_reader.specs.Matching.{is_kept, kept_rows}
use Rattle.count_sum.specs.SumPairs.{joined_key}
use Rattle.cell_runs.specs.CellsBy.{ArePairs, rows_at}
use Rattle.cell_runs.specs.Runs.{runs}
use Rattle.cell_runs.proofs.Groups.{in_order, same_cells}
use Rattle.cell_runs.proofs.Numbers.{all_among, among_all}
use Rattle.keyed_rows.specs.KeyedRows.{IsKeyed, keyed, row_of, row_pair}
use Rattle.keyed_rows.specs.declared.rows.KeyedRow.{KeyedRow}
use Rattle.keyed_rows.proofs.Sorted.{IsOf, each_all, kept_apart, kept_are, key_fits, sorted_at, sorted_pairs, sorted_rise}
use Rattle.count_sum.specs.KeyCells.{key_pairs}

pub few_bits : (checked : Checked) (t : TableParts) (bits : ℕ) (keys : List ℕ) → keys ≡ map (λ (p : ℕ × List ℕ). p.0) (key_pairs checked t) → bits ≡ key_bits t.shape.schema.columns checked.columns → IsTable t → All (λ x. x < 2 ^ bits) keys
few_bits checked t bits keys is is-bits table =
    let jk = joined_key checked t in
    let kept = kept_rows checked t in
    let P : ℕ → Type 0 = λ x. x < 2 ^ bits in
    let below : (r : Row) → IsOf t r → P (jk r) = λ r of. subst (λ b. jk r < 2 ^ b) (sym is-bits) (key_fits checked t r table of) in
    let each : AllByRecursion P (map jk kept) = each-map P jk kept (each_weaker (IsOf t) (λ r. P (jk r)) below kept (kept_are checked t table)) in
    let rise : AllByRecursion P (rising (map jk kept)) = among_all P (rising (map jk kept)) (λ x there. all_among P (map jk kept) x each (sym (any-rising (λ y. eqb y x) (map jk kept)) ∙ there)) in
    each_all P keys (subst (AllByRecursion P) (sym (is ∙ numbers (rising (map jk kept)))) rise)
  where
    numbers : (l : List ℕ) → map (λ (p : ℕ × List ℕ). p.0) (map (λ n. (n, cell (adds_in t.shape.schema.columns) checked.spec (rows_at (joined_key checked t) (kept_rows checked t) n))) l) ≡ l
    numbers [] = refl
    numbers (n ∷ l) = ap (λ r. n ∷ r) (numbers l)

length-put : (x : ℕ) (l : List ℕ) → length (put_number x l) ≤ 1 + length l
unfolding put_number
length-put x [] = omega arith
length-put x (y ∷ l) = step (ltb x y) (eqb x y) (length-put x l)
  where
    step : (b c : Bool) → length (put_number x l) ≤ 1 + length l → length (cond b (x ∷ y ∷ l) (cond c (y ∷ l) (y ∷ put_number x l))) ≤ 1 + suc (length l)
    step true c h = omega arith
    step false true h = omega arith
    step false false h = omega arith

-- no more numbers rise than there are
few_rise : (l : List ℕ) → length (rising l) ≤ length l
unfolding rising
few_rise [] = omega arith
few_rise (x ∷ l) = let e = length-put x (rising l) in let f = few_rise l in omega arith

-- there are no more keys than rows
pub few_keys : (checked : Checked) (t : TableParts) (keys : List ℕ) → keys ≡ map (λ (p : ℕ × List ℕ). p.0) (key_pairs checked t) → IsTable t → length keys ≤ t.shape.rows
few_keys checked t keys is table =
    let kept = kept_rows checked t in
    let numbers = map (joined_key checked t) kept in
    let cell_at : ℕ → ℕ × List ℕ = λ n. (n, cell (adds_in t.shape.schema.columns) checked.spec (rows_at (joined_key checked t) kept n)) in
    let a = length-map (key_pairs checked t) (λ (p : ℕ × List ℕ). p.0) in
    let b = length-map (rising numbers) cell_at in
    let c = few_rise numbers in
    let d = length-map kept (joined_key checked t) in
    let e = length-filter-le (is_kept checked.public) (rows_of t) in
    let f : length (rows_of t) ≡ length t.rows = length-map (range_with_len 0 (length t.rows)) (row_in t) ∙ length-range_with_len 0 (length t.rows) in
    let g = table.count in
    let h = ap (λ l. length l) is in
    omega arith

-- the runs of the sorted rows' cells are the cells of the keys
pub cells_of_keys : (checked : Checked) (t : TableParts) (w : ℕ) (rows : List KeyedRow) (keys cells : List ℕ) → IsTable t → All (IsKeyed checked t) rows → IsNonDecreasingBy (λ (k : KeyedRow). k.key) rows
    → ((n : ℕ) → filter (λ k. eqb k.key n) rows ≡ filter (λ k. eqb k.key n) (map (keyed checked t) (kept_rows checked t))) → length rows ≤ 262144
    → ArePairs w (runs checked.spec (map (row_pair checked t) rows)) keys cells → ArePairs w (key_pairs checked t) keys cells
cells_of_keys checked t w rows keys cells table are up same few pairs =
    let adds = adds_in t.shape.schema.columns in
    let jk = joined_key checked t in
    let sorted = map (row_of t) rows in
    let at = sorted_at checked t rows are table same in
    let apart : (n : ℕ) → Apart (rows_at jk sorted n) = λ n. subst Apart (sym (at n)) (kept_apart checked t n) in
    let short : length sorted < 2 ^ 64 = let e = length-map rows (row_of t) in omega arith in
    subst (λ l. ArePairs w l keys cells)
    (ap (runs checked.spec) (sorted_pairs checked t rows are)
    ∙ (in_order adds checked.spec jk sorted (sorted_rise checked t rows are up) apart short ∙ same_cells adds checked.spec jk sorted (kept_rows checked t) at))
    pairs
