-- The cells of the positions, from the sorted rows.
use Rattle.std.proofs.Common.{◌≡◌, ℕ, zero, suc, ◌+◌, ◌<◌, Bool, true, false, cond, eqb, List, [], ◌∷◌, ◌++◌, length, map, drop, set, get_or, refl, ap, ap₂, sym, subst, ◌∙◌, arith}
use Rattle.std.specs.Prelude.{All}
use Rattle.std.specs.List.{AllByRecursion, filter, flat_map, range_with_len}
use Rattle.std.specs.List.Sorted.{IsNonDecreasingBy, IsPermutation}
use Rattle.std.proofs.Math.Seq.{drop-cons, set-append_seam}
use Rattle.std.proofs.lemmas.List.{append_assoc, length-map}
use Rattle.std.proofs.lemmas.List.FromFn.{length-range_with_len}
use Rattle.std.proofs.lemmas.List.Sorted.{IsPermutation-map, IsPermutation-sym, length_permutation, sum_by-IsPermutation}
use Rattle.spl_values.specs.Tables.{IsTable, TableParts}
use Rattle.cell_merge.specs.Rows.{Row}
use Rattle.cell_merge.specs.Cells.{cell}
use Rattle.cell_merge.specs.TableRows.{adds_in, row_in, rows_of}
use Rattle.cell_merge.proofs.Lists.{each-filter}
use Rattle.query_reader.specs.declared.checked.Checked.{Checked}
use Rattle.query_reader.specs.Matching.{is_kept, kept_rows}
use Rattle.count_sum.specs.SumPairs.{joined_key}
use Rattle.cell_runs.specs.CellsBy.{ArePairs, rows_at}
use Rattle.cell_runs.proofs.Groups.{climbs, same_cells}
use Rattle.keyed_rows.specs.KeyedRows.{IsKeyed, keyed, row_of, row_pair}
use Rattle.keyed_rows.specs.declared.rows.KeyedRow.{KeyedRow}
use Rattle.keyed_rows.proofs.Sorted.{kept_again, sorted_at, sorted_rise}
use Rattle.count_sum.specs.Positions.{comes_before, count_before, position, position_pairs}
use Rattle.position_tables.proofs.Counting.{NumbersClimb, counted, strictly}
use Rattle.position_tables.proofs.Singles.{at_most_one, numbered, numbered_cells, same_single}

-- ---- the numbers of a table's rows rise

numbers_above : (t : TableParts) (l m n : ℕ) → l < m → AllByRecursion (λ (s : Row). l < s.number) (map (row_in t) (range_with_len m n))
numbers_above t l m zero h = tt
numbers_above t l m (suc n) h = (h, numbers_above t l (m + 1) n (omega arith))

numbers_climb : (t : TableParts) (l n : ℕ) → NumbersClimb (map (row_in t) (range_with_len l n))
numbers_climb t l zero = tt
numbers_climb t l (suc n) = (numbers_above t l (l + 1) n (omega arith), numbers_climb t (l + 1) n)

NumbersClimb-filter : (p : Row → Bool) (rows : List Row) → NumbersClimb rows → NumbersClimb (filter p rows)
NumbersClimb-filter p [] h = tt
NumbersClimb-filter p (r ∷ rows) h = step (p r) (each-filter (λ s. r.number < s.number) p rows h.0) (NumbersClimb-filter p rows h.1)
  where
    step : (b : Bool) → AllByRecursion (λ s. r.number < s.number) (filter p rows) → NumbersClimb (filter p rows) → NumbersClimb (cond b (r ∷ filter p rows) (filter p rows))
    step true a k = (a, k)
    step false a k = k

-- ---- pairs that are numbered

keys_numbered : (checked : Checked) (t : TableParts) (d : ℕ) (rows : List Row) → map (λ (p : ℕ × List ℕ). p.0) (numbered (adds_in t.shape.schema.columns) checked.spec d rows) ≡ range_with_len d (length rows)
keys_numbered checked t d [] = refl
keys_numbered checked t d (r ∷ rows) = ap (λ l. d ∷ l) (keys_numbered checked t (d + 1) rows)

cells_numbered : (checked : Checked) (t : TableParts) (d : ℕ) (rows : List KeyedRow) → flat_map (λ (p : ℕ × List ℕ). p.1) (map (row_pair checked t) rows) ≡ flat_map (λ (p : ℕ × List ℕ). p.1) (numbered (adds_in t.shape.schema.columns) checked.spec d (map (row_of t) rows))
cells_numbered checked t d [] = refl
cells_numbered checked t d (k ∷ rows) = ap (λ l. cell (adds_in t.shape.schema.columns) checked.spec (row_in t k.row ∷ []) ++ l) (cells_numbered checked t (d + 1) rows)

-- ---- the cells of the positions

module _ (checked : Checked) (t : TableParts) (rows : List KeyedRow) (table : IsTable t) (are : All (IsKeyed checked t) rows) (up : IsNonDecreasingBy (λ (k : KeyedRow). k.key) rows)
    (same : (n : ℕ) → filter (λ k. eqb k.key n) rows ≡ filter (λ k. eqb k.key n) (map (keyed checked t) (kept_rows checked t))) (perm : IsPermutation (map (keyed checked t) (kept_rows checked t)) rows) where
  abbrev sorted : List Row
  sorted = map (row_of t) rows

  reordered : IsPermutation (kept_rows checked t) sorted
  reordered = subst (λ l. IsPermutation l sorted) (kept_again checked t table) (IsPermutation-map (row_of t) (map (keyed checked t) (kept_rows checked t)) rows perm)

  positions : map (position checked t) sorted ≡ range_with_len 0 (length sorted)
  positions =
      let at = sorted_at checked t rows are table same in
      let own : (n : ℕ) → NumbersClimb (rows_at (joined_key checked t) (kept_rows checked t) n) = λ n.
      NumbersClimb-filter (λ r. eqb (joined_key checked t r) n) (kept_rows checked t) (NumbersClimb-filter (is_kept checked.public) (rows_of t) (numbers_climb t 0 (length t.rows))) in
      let numbers : (n : ℕ) → NumbersClimb (rows_at (joined_key checked t) sorted n) = λ n. subst NumbersClimb (sym (at n)) (own n) in
      let each : (r : Row) → position checked t r ≡ count_before checked t sorted r = λ r. sym (sum_by-IsPermutation (λ s. cond (comes_before checked t s r) 1 0) (kept_rows checked t) sorted reordered) in
      (λ i. map (λ r. each r i) sorted) ∙ counted checked t sorted (strictly checked t sorted (climbs (joined_key checked t) sorted (sorted_rise checked t rows are up)) numbers)

  pairs_are : position_pairs checked t ≡ numbered (adds_in t.shape.schema.columns) checked.spec 0 sorted
  pairs_are =
      let adds = adds_in t.shape.schema.columns in
      let pos = position checked t in
      same_cells adds checked.spec pos (kept_rows checked t) sorted (λ n. same_single (λ r. eqb (pos r) n) sorted (kept_rows checked t) (IsPermutation-sym (kept_rows checked t) sorted reordered) (at_most_one pos n sorted 0 positions))
      ∙ numbered_cells adds checked.spec pos sorted positions

  count_rows : length rows ≡ length (kept_rows checked t)
  count_rows = sym (length-map rows (row_of t)) ∙ length_permutation (kept_rows checked t) sorted reordered

  pub position_keys : range_with_len 0 (length rows) ≡ map (λ (p : ℕ × List ℕ). p.0) (position_pairs checked t)
  position_keys = ap (range_with_len 0) (sym (length-map rows (row_of t))) ∙ sym (ap (map (λ (p : ℕ × List ℕ). p.0)) pairs_are ∙ keys_numbered checked t 0 sorted)

  pub position_count : range_with_len 0 (length rows) ≡ range_with_len 0 (length (kept_rows checked t))
  position_count = ap (range_with_len 0) count_rows

  pub position_words : (w : ℕ) (keys cells : List ℕ) → ArePairs w (map (row_pair checked t) rows) keys cells → cells ≡ flat_map (λ (p : ℕ × List ℕ). p.1) (position_pairs checked t)
  position_words w keys cells pairs = pairs.each_cell ∙ (cells_numbered checked t 0 rows ∙ ap (flat_map (λ (p : ℕ × List ℕ). p.1)) (sym pairs_are))

pub key_count : (checked : Checked) (t : TableParts) (w : ℕ) (rows : List KeyedRow) (keys cells : List ℕ) → ArePairs w (map (row_pair checked t) rows) keys cells → length keys ≡ length rows
key_count checked t w rows keys cells pairs =
    ap (λ l. length l) pairs.each_key ∙ (length-map (map (row_pair checked t) rows) (λ (p : ℕ × List ℕ). p.0) ∙ length-map rows (row_pair checked t))

-- ---- numbers that are written one after another

range_more : (a n : ℕ) → range_with_len a (suc n) ≡ range_with_len a n ++ (a + n) ∷ []
range_more a zero = let e : a ≡ a + 0 = omega arith in ap (λ x. x ∷ []) e
range_more a (suc n) = ap (λ l. a ∷ l) (range_more (a + 1) n ∙ (let e : a + 1 + n ≡ a + suc n = omega arith in ap (λ x. range_with_len (a + 1) n ++ x ∷ []) e))

pub one_more : (place : ℕ) (items now : List ℕ) → place < length items → now ≡ range_with_len 0 place ++ drop place items → set now place place ≡ range_with_len 0 (place + 1) ++ drop (place + 1) items
one_more place items now within is =
    let front = range_with_len 0 place in
    let rest = drop (suc place) items in
    let split : now ≡ front ++ get_or items place 0 ∷ rest = is ∙ ap (λ l. front ++ l) (drop-cons items place 0 within) in
    let long : length front ≡ place = length-range_with_len 0 place in
    let next : place + 1 ≡ suc place = omega arith in
    let longer : range_with_len 0 (place + 1) ≡ front ++ place ∷ [] = ap (range_with_len 0) next ∙ (range_more 0 place ∙ (let e : 0 + place ≡ place = omega arith in ap (λ x. front ++ x ∷ []) e)) in
    ap (λ l. set l place place) split
    ∙ (ap (λ n. set (front ++ get_or items place 0 ∷ rest) n place) (sym long)
    ∙ (set-append_seam front (get_or items place 0) rest place
    ∙ sym (ap₂ (λ a b. a ++ b) longer (ap (λ n. drop n items) next) ∙ append_assoc front (place ∷ []) rest)))
