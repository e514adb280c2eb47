-- The kept rows of a table with their keys, and the rows that they are.
use Rattle.std.proofs.Common.{◌≡◌, ℕ, zero, suc, ◌+◌, ◌^◌, ◌<◌, ◌≤◌, Bool, true, false, not, ◌&&◌, cond, eqb, ltb, inl, inr, List, [], ◌∷◌, ◌++◌, length, map, get_or, refl, ap, sym, ◌∙◌, arith}
use Rattle.std.specs.Prelude.{All, slice_index_or}
use Rattle.std.specs.List.{AllByRecursion, filter, range_with_len}
use Rattle.std.specs.List.Sorted.{IsNonDecreasingBy, IsStableByKey, ties}
use Rattle.std.specs.Ordering.{is_lt, nat_cmp}
use Rattle.std.specs.declared.cmp.Ordering.TheVariants.{Less, Equal, Greater}
use Rattle.std.proofs.lemmas.Bool.{cases_order, eq-eqb, ne_eqb, lt-ltb, le-ltb}
use Rattle.std.proofs.lemmas.List.{map-append, get_or-map, length-map}
use Rattle.std.proofs.lemmas.List.Elements.{filter_agree}
use Rattle.std.proofs.lemmas.Simd.{map-map}
use Rattle.spl_values.specs.Tables.{IsTable, TableParts, key_bits}
use Rattle.spl_values.proofs.RowLaws.{keys_below}
use Rattle.cell_merge.specs.Rows.{Row, Apart}
use Rattle.cell_merge.specs.Cells.{cell}
use Rattle.cell_merge.specs.TableRows.{adds_in, row_in, rows_of}
use Rattle.cell_merge.proofs.Labels.{Apart-filter}
use Rattle.cell_merge.proofs.RowCells.{rows_apart}
use Rattle.cell_merge.proofs.Lists.{each-filter, each-map, each_weaker}
use Rattle.query_reader.specs.declared.checked.Checked.{Checked}
use Rattle.query_reader.specs.Matching.{is_kept, kept_rows}
use Rattle.count_sum.specs.SumPairs.{joined_key}
use Rattle.count_sum.proofs.KeptRows.{rows_to, rows_to-more, filter-kept, filter-left_out}
use Rattle.cell_runs.specs.CellsBy.{rows_at}
use Rattle.keyed_rows.specs.KeyedRows.{IsKeyed, keyed, row_of, row_pair}
use Rattle.keyed_rows.specs.declared.rows.KeyedRow.{KeyedRow}

-- ---- a row more

pub keyed_more : (checked : Checked) (t : TableParts) (row k : ℕ) (found more : List KeyedRow) → is_kept checked.public (row_in t row) ≡ true → k ≡ joined_key checked t (row_in t row)
    → more ≡ found ++ record { key = k; row = row } ∷ [] → found ≡ map (keyed checked t) (filter (is_kept checked.public) (rows_to t row))
    → more ≡ map (keyed checked t) (filter (is_kept checked.public) (rows_to t (row + 1)))
keyed_more checked t row k found more kept is-key longer is =
    let p = is_kept checked.public in
    let one : KeyedRow = record { key = k; row = row } in
    let is-one : one ≡ keyed checked t (row_in t row) = ap (λ x. record { key = x; row = row }) is-key in
    longer
    ∙ (ap (λ l. l ++ one ∷ []) is
    ∙ (ap (λ x. map (keyed checked t) (filter p (rows_to t row)) ++ x ∷ []) is-one
    ∙ (sym (map-append (keyed checked t) (filter p (rows_to t row)) (row_in t row ∷ []))
    ∙ ap (map (keyed checked t)) (sym (ap (filter p) (rows_to-more t row) ∙ filter-kept p (rows_to t row) (row_in t row) kept)))))

pub keyed_same : (checked : Checked) (t : TableParts) (row : ℕ) (found : List KeyedRow) → is_kept checked.public (row_in t row) ≡ false
    → found ≡ map (keyed checked t) (filter (is_kept checked.public) (rows_to t row)) → found ≡ map (keyed checked t) (filter (is_kept checked.public) (rows_to t (row + 1)))
keyed_same checked t row found left is =
    let p = is_kept checked.public in
    is ∙ ap (map (keyed checked t)) (sym (ap (filter p) (rows_to-more t row) ∙ filter-left_out p (rows_to t row) (row_in t row) left))

-- ---- what holds of each

pub each_all : {A : Type 0} (P : A → Type 0) (xs : List A) → AllByRecursion P xs → All P xs
each_all P [] h k d lt = absurd (omega arith)
each_all P (x ∷ xs) h zero d lt = h.0
each_all P (x ∷ xs) h (suc k) d lt = each_all P xs h.1 k d (omega arith)

pub all_each : {A : Type 0} (P : A → Type 0) (xs : List A) → All P xs → AllByRecursion P xs
all_each P [] h = tt
all_each P (x ∷ xs) h = (h 0 x (omega arith), all_each P xs (λ k d lt. h (suc k) d (omega arith)))

-- a row of a table has the number of its place
abbrev pub IsOf : TableParts → Row → Type 0
IsOf t r = (r.number < t.shape.rows) × (row_in t r.number ≡ r)

rows_of_from : (t : TableParts) (l n : ℕ) → l + n ≤ t.shape.rows → AllByRecursion (IsOf t) (map (row_in t) (range_with_len l n))
rows_of_from t l zero h = tt
rows_of_from t l (suc n) h = ((omega arith, refl), rows_of_from t (l + 1) n (omega arith))

pub kept_are : (checked : Checked) (t : TableParts) → IsTable t → AllByRecursion (IsOf t) (kept_rows checked t)
kept_are checked t table = each-filter (IsOf t) (is_kept checked.public) (rows_of t) (rows_of_from t 0 (length t.rows) (let e = table.count in omega arith))

pub kept_keyed : (checked : Checked) (t : TableParts) → IsTable t → All (IsKeyed checked t) (map (keyed checked t) (kept_rows checked t))
kept_keyed checked t table = each_all (IsKeyed checked t) (map (keyed checked t) (kept_rows checked t)) (each-map (IsKeyed checked t) (keyed checked t) (kept_rows checked t) (each_weaker (IsOf t) (λ r. IsKeyed checked t (keyed checked t r)) (own checked t) (kept_rows checked t) (kept_are checked t table)))
  where
    own : (checked : Checked) (t : TableParts) (r : Row) → IsOf t r → IsKeyed checked t (keyed checked t r)
    own checked t r is = (is.0, ap (joined_key checked t) (sym is.1))

-- ---- the sorted rows

nat_cmp-ltb : (m n : ℕ) → is_lt (nat_cmp m n) ≡ ltb m n
nat_cmp-ltb m n = tested (ltb m n) (eqb m n)
  where
    tested : (b c : Bool) → is_lt (cond b Less (cond c Equal Greater)) ≡ b
    tested true c = refl
    tested false true = refl
    tested false false = refl

ties_at : (n : ℕ) (k : KeyedRow) → ties (λ (x y : KeyedRow). is_lt (nat_cmp x.key y.key)) (record { key = n; row = 0 }) k ≡ eqb k.key n
ties_at n k = (λ i. not (nat_cmp-ltb n k.key i) && not (nat_cmp-ltb k.key n i)) ∙ two_ways n k.key
  where
    two_ways : (m n : ℕ) → (not (ltb m n) && not (ltb n m)) ≡ eqb n m
    two_ways m n =
        elim (cases_order m n) [
          | inl e ↦ rw (le-ltb m n (omega arith), le-ltb n m (omega arith), eq-eqb n m (sym e)) refl
          | inr o ↦ elim o [
            | inl l ↦ rw (lt-ltb m n l, ne_eqb n m (λ e. omega arith)) refl
            | inr g ↦ rw (le-ltb m n (omega arith), lt-ltb n m g, ne_eqb n m (λ e. omega arith)) refl
          ]
        ]

-- a stable sort by key leaves those of each key in their order
pub stable_by_key : (a b : List KeyedRow) → IsStableByKey (λ (k : KeyedRow). k.key) nat_cmp a b → (n : ℕ) → filter (λ k. eqb k.key n) b ≡ filter (λ k. eqb k.key n) a
stable_by_key a b stable n =
    let t : KeyedRow → Bool = ties (λ (x y : KeyedRow). is_lt (nat_cmp x.key y.key)) (record { key = n; row = 0 }) in
    sym (filter_agree t (λ k. eqb k.key n) (ties_at n) b) ∙ (stable (record { key = n; row = 0 }) ∙ filter_agree t (λ k. eqb k.key n) (ties_at n) a)

filter-map : {A B : Type 0} (f : A → B) (p : B → Bool) (l : List A) → filter p (map f l) ≡ map f (filter (λ x. p (f x)) l)
filter-map f p [] = refl
filter-map f p (x ∷ l) = step (p (f x)) (filter-map f p l)
  where
    step : (t : Bool) → filter p (map f l) ≡ map f (filter (λ x. p (f x)) l) → cond t (f x ∷ filter p (map f l)) (filter p (map f l)) ≡ map f (cond t (x ∷ filter (λ x. p (f x)) l) (filter (λ x. p (f x)) l))
    step true e = ap (λ r. f x ∷ r) e
    step false e = e

map-same : {A : Type 0} (f : A → A) (l : List A) → AllByRecursion (λ x. f x ≡ x) l → map f l ≡ l
map-same f [] h = refl
map-same f (x ∷ l) h = ap (λ y. y ∷ map f l) h.0 ∙ ap (λ r. x ∷ r) (map-same f l h.1)

module _ (checked : Checked) (t : TableParts) (rows : List KeyedRow) (are : All (IsKeyed checked t) rows) where
  abbrev jk : Row → ℕ
  jk = joined_key checked t

  each_own : (l : List KeyedRow) → AllByRecursion (IsKeyed checked t) l → (n : ℕ) → filter (λ k. eqb (jk (row_of t k)) n) l ≡ filter (λ k. eqb k.key n) l
  each_own [] h n = refl
  each_own (k ∷ l) h n = (λ i. cond (eqb (sym h.0.1 i) n) (k ∷ each_own l h.1 n i) (each_own l h.1 n i))

  -- the sorted rows with a key are the kept rows with it
  pub sorted_at : IsTable t → ((n : ℕ) → filter (λ k. eqb k.key n) rows ≡ filter (λ k. eqb k.key n) (map (keyed checked t) (kept_rows checked t)))
      → (n : ℕ) → rows_at jk (map (row_of t) rows) n ≡ rows_at jk (kept_rows checked t) n
  sorted_at table same n =
      let kept = kept_rows checked t in
      let found = filter (λ r. eqb (jk r) n) kept in
      let each : AllByRecursion (IsOf t) found = each-filter (IsOf t) (λ r. eqb (jk r) n) kept (kept_are checked t table) in
      filter-map (row_of t) (λ r. eqb (jk r) n) rows
      ∙ (ap (map (row_of t)) (each_own rows (all_each (IsKeyed checked t) rows are) n ∙ (same n ∙ filter-map (keyed checked t) (λ k. eqb k.key n) kept))
      ∙ (map-map (row_of t) (keyed checked t) found ∙ map-same (λ r. row_in t r.number) found (each_weaker (IsOf t) (λ r. row_in t r.number ≡ r) (of_is t) found each)))
    where
      of_is : (t : TableParts) (r : Row) → IsOf t r → row_in t r.number ≡ r
      of_is t r is = is.1

  -- their keys and cells are those of the rows in order
  pub sorted_pairs : map (row_pair checked t) rows ≡ map (λ r. (jk r, cell (adds_in t.shape.schema.columns) checked.spec (r ∷ []))) (map (row_of t) rows)
  sorted_pairs = each_pair rows (all_each (IsKeyed checked t) rows are) ∙ sym (map-map (λ r. (jk r, cell (adds_in t.shape.schema.columns) checked.spec (r ∷ []))) (row_of t) rows)
    where
      each_pair : (l : List KeyedRow) → AllByRecursion (IsKeyed checked t) l → map (row_pair checked t) l ≡ map (λ k. (jk (row_of t k), cell (adds_in t.shape.schema.columns) checked.spec (row_of t k ∷ []))) l
      each_pair [] h = refl
      each_pair (k ∷ l) h = ap (λ n. (n, cell (adds_in t.shape.schema.columns) checked.spec (row_of t k ∷ [])) ∷ map (row_pair checked t) l) h.0.1 ∙ ap (λ r. (jk (row_of t k), cell (adds_in t.shape.schema.columns) checked.spec (row_of t k ∷ [])) ∷ r) (each_pair l h.1)

  -- their joined keys don't fall
  pub sorted_rise : IsNonDecreasingBy (λ (k : KeyedRow). k.key) rows → IsNonDecreasingBy jk (map (row_of t) rows)
  sorted_rise up i j d le lt =
      let long : length (map (row_of t) rows) ≡ length rows = length-map rows (row_of t) in
      let e : KeyedRow = record { key = 0; row = 0 } in
      let first : jk (get_or (map (row_of t) rows) i d) ≡ (get_or rows i e).key = ap jk (get_or-map (row_of t) rows i e d (omega arith)) ∙ sym (are i e (omega arith)).1 in
      let second : jk (get_or (map (row_of t) rows) j d) ≡ (get_or rows j e).key = ap jk (get_or-map (row_of t) rows j e d (omega arith)) ∙ sym (are j e (omega arith)).1 in
      let rise = up i j e le (omega arith) in
      omega arith

-- ---- keys of kept rows

pub key_fits : (checked : Checked) (t : TableParts) (r : Row) → IsTable t → IsOf t r → joined_key checked t r < 2 ^ key_bits t.shape.schema.columns checked.columns
key_fits checked t r table is = keys_below t.shape.schema.columns (slice_index_or t.rows r.number []) checked.columns table.shape.schema.columns (table.rows r.number [] (let e = table.count in let f = is.0 in omega arith))

-- no two kept rows with a key have one number
pub kept_apart : (checked : Checked) (t : TableParts) (n : ℕ) → Apart (rows_at (joined_key checked t) (kept_rows checked t) n)
kept_apart checked t n = Apart-filter (λ r. eqb (joined_key checked t r) n) (kept_rows checked t) (Apart-filter (is_kept checked.public) (rows_of t) (rows_apart t))

-- the kept rows are those of their keys
pub kept_again : (checked : Checked) (t : TableParts) → IsTable t → map (row_of t) (map (keyed checked t) (kept_rows checked t)) ≡ kept_rows checked t
kept_again checked t table = map-map (row_of t) (keyed checked t) (kept_rows checked t) ∙ map-same (λ r. row_in t r.number) (kept_rows checked t) (each_weaker (IsOf t) (λ r. row_in t r.number ≡ r) of_is (kept_rows checked t) (kept_are checked t table))
  where
    of_is : (r : Row) → IsOf t r → row_in t r.number ≡ r
    of_is r is = is.1
