-- Rows of which one has each number.
use Rattle.std.proofs.Common.{◌≡◌, ℕ, zero, suc, ◌+◌, ◌<◌, ◌≤◌, Bool, true, false, cond, eqb, List, [], ◌∷◌, length, map, refl, ap, ap₂, sym, subst, ◌∙◌, arith}
use Rattle.std.specs.Prelude.{sum_by}
use Rattle.std.specs.List.{AllByRecursion, filter, range_with_len}
use Rattle.std.specs.List.Sorted.{IsPermutation}
use Rattle.std.proofs.lemmas.Bool.{cond-false, eq-eqb, eqb-true, false≢true, ne_eqb}
use Rattle.std.proofs.lemmas.List.Sorted.{All-permutation, sum_by-IsPermutation}
use Rattle.std.proofs.lemmas.List.Sums.{sum_by-cons}
use Rattle.spl_words.specs.Rising.{among, rising}
use Rattle.spl_words.proofs.Rising.{Rises, any-rising, Rises-rising, same_rising}
use Rattle.cell_merge.specs.Rows.{Row}
use Rattle.cell_merge.specs.Cells.{Addends, cell}
use Rattle.cell_merge.specs.declared.spec.CellSpec.{CellSpec}
use Rattle.cell_runs.specs.CellsBy.{cells_by, rows_at}
use Rattle.cell_runs.proofs.Grouping.{cell_at}
use Rattle.keyed_rows.proofs.Sorted.{all_each, each_all}

-- ---- a filter of rows in another order

count : (p : Row → Bool) (l : List Row) → length (filter p l) ≡ sum_by (λ r. cond (p r) 1 0) l
count p [] = refl
count p (r ∷ l) = step (p r) (count p l) ∙ sym (sum_by-cons (λ r. cond (p r) 1 0) r l)
  where
    step : (b : Bool) → length (filter p l) ≡ sum_by (λ r. cond (p r) 1 0) l → length (cond b (r ∷ filter p l) (filter p l)) ≡ cond b 1 0 + sum_by (λ r. cond (p r) 1 0) l
    step true e = omega arith
    step false e = omega arith

same_count : (p : Row → Bool) (a b : List Row) → IsPermutation a b → length (filter p b) ≡ length (filter p a)
same_count p a b perm = count p b ∙ (sum_by-IsPermutation (λ r. cond (p r) 1 0) a b perm ∙ sym (count p a))

only : (p : Row → Bool) (x : Row) (l : List Row) → AllByRecursion (λ r. r ≡ x) (filter p l) → AllByRecursion (λ r. p r ≡ true → r ≡ x) l
only p x [] h = tt
only p x (r ∷ l) h = step (p r) (only p x l) h
  where
    step : (b : Bool) → (AllByRecursion (λ r. r ≡ x) (filter p l) → AllByRecursion (λ r. p r ≡ true → r ≡ x) l) → AllByRecursion (λ r. r ≡ x) (cond b (r ∷ filter p l) (filter p l))
        → ((b ≡ true → r ≡ x) × AllByRecursion (λ r. p r ≡ true → r ≡ x) l)
    step true rest h = ((λ e. h.0), rest h.1)
    step false rest h = ((λ e. absurd (false≢true e)), rest h)

those : (p : Row → Bool) (x : Row) (l : List Row) → AllByRecursion (λ r. p r ≡ true → r ≡ x) l → AllByRecursion (λ r. r ≡ x) (filter p l)
those p x [] h = tt
those p x (r ∷ l) h = step (p r) h.0 (those p x l h.1)
  where
    step : (b : Bool) → (b ≡ true → r ≡ x) → AllByRecursion (λ r. r ≡ x) (filter p l) → AllByRecursion (λ r. r ≡ x) (cond b (r ∷ filter p l) (filter p l))
    step true is rest = (is refl, rest)
    step false is rest = rest

single : (x : Row) (l : List Row) → length l ≡ 1 → AllByRecursion (λ r. r ≡ x) l → l ≡ x ∷ []
single x [] e h = absurd (omega arith)
single x (r ∷ []) e h = ap (λ y. y ∷ []) h.0
single x (r ∷ s ∷ l) e h = absurd (omega arith)

nothing : (l : List Row) → length l ≡ 0 → l ≡ []
nothing [] e = refl
nothing (r ∷ l) e = absurd (omega arith)

-- where no more than one row passes, it is the same in any order
pub same_single : (p : Row → Bool) (a b : List Row) → IsPermutation a b → length (filter p a) ≤ 1 → filter p b ≡ filter p a
same_single p a b perm few = by_length (filter p a) refl few
  where
    by_length : (l : List Row) → filter p a ≡ l → length l ≤ 1 → filter p b ≡ l
    by_length [] is few = nothing (filter p b) (same_count p a b perm ∙ ap (λ l. length l) is)
    by_length (x ∷ []) is few =
        let P : Row → Type 0 = λ r. p r ≡ true → r ≡ x in
        let own : AllByRecursion P a = only p x a (subst (AllByRecursion (λ r. r ≡ x)) (sym is) (refl, tt)) in
        let other : AllByRecursion P b = all_each P b (All-permutation P a b perm (each_all P a own)) in
        single x (filter p b) (same_count p a b perm ∙ ap (λ l. length l) is) (those p x b other)
    by_length (x ∷ y ∷ l) is few = absurd (omega arith)

-- ---- rows numbered from one on

above : (f : Row → ℕ) (n : ℕ) (rows : List Row) (d : ℕ) → map f rows ≡ range_with_len d (length rows) → n < d → rows_at f rows n ≡ []
above f n [] d e h = refl
above f n (r ∷ rows) d e h =
    let first : f r ≡ d = cc in
    let rest : map f rows ≡ range_with_len (d + 1) (length rows) = cc in
    cond-false (eqb (f r) n) (r ∷ rows_at f rows n) (rows_at f rows n) (ne_eqb (f r) n (λ g. omega arith)) ∙ above f n rows (d + 1) rest (omega arith)

abbrev pub numbered : Addends → CellSpec → ℕ → List Row → List (ℕ × List ℕ)
numbered adds spec d [] = []
numbered adds spec d (r ∷ rows) = (d, cell adds spec (r ∷ [])) ∷ numbered adds spec (d + 1) rows

range-agree : {A : Type 0} (g h : ℕ → A) (a m : ℕ) → ((n : ℕ) → a ≤ n → g n ≡ h n) → map g (range_with_len a m) ≡ map h (range_with_len a m)
range-agree g h a zero e = refl
range-agree g h a (suc m) e = ap₂ (λ x l. x ∷ l) (e a (omega arith)) (range-agree g h (a + 1) m (λ n le. e n (omega arith)))

own_cells : (adds : Addends) (spec : CellSpec) (f : Row → ℕ) (rows : List Row) (d : ℕ) → map f rows ≡ range_with_len d (length rows)
    → map (cell_at adds spec f rows) (range_with_len d (length rows)) ≡ numbered adds spec d rows
own_cells adds spec f [] d e = refl
own_cells adds spec f (r ∷ rows) d e =
    let first : f r ≡ d = cc in
    let rest : map f rows ≡ range_with_len (d + 1) (length rows) = cc in
    let mine : rows_at f (r ∷ rows) d ≡ r ∷ [] = ap (λ b. cond b (r ∷ rows_at f rows d) (rows_at f rows d)) (eq-eqb (f r) d first) ∙ ap (λ l. r ∷ l) (above f d rows (d + 1) rest (omega arith)) in
    let others : (n : ℕ) → d + 1 ≤ n → cell_at adds spec f (r ∷ rows) n ≡ cell_at adds spec f rows n = λ n le.
    ap (λ l. (n, cell adds spec l)) (cond-false (eqb (f r) n) (r ∷ rows_at f rows n) (rows_at f rows n) (ne_eqb (f r) n (λ g. omega arith))) in
    ap₂ (λ x l. x ∷ l) (ap (λ l. (d, cell adds spec l)) mine) (range-agree (cell_at adds spec f (r ∷ rows)) (cell_at adds spec f rows) (d + 1) (length rows) others ∙ own_cells adds spec f rows (d + 1) rest)

range-above : (x a m : ℕ) → x < a → AllByRecursion (λ y. x < y) (range_with_len a m)
range-above x a zero h = tt
range-above x a (suc m) h = (h, range-above x (a + 1) m (omega arith))

Rises-range : (a m : ℕ) → Rises (range_with_len a m)
Rises-range a zero = tt
Rises-range a (suc m) = (range-above a (a + 1) m (omega arith), Rises-range (a + 1) m)

pub numbered_cells : (adds : Addends) (spec : CellSpec) (f : Row → ℕ) (rows : List Row) → map f rows ≡ range_with_len 0 (length rows) → cells_by adds spec f rows ≡ numbered adds spec 0 rows
numbered_cells adds spec f rows e =
    let same : rising (map f rows) ≡ range_with_len 0 (length rows) = same_rising (rising (map f rows)) (range_with_len 0 (length rows)) (Rises-rising (map f rows)) (Rises-range 0 (length rows))
    (λ z. any-rising (λ y. eqb y z) (map f rows) ∙ ap (λ l. among l z) e) in
    ap (map (cell_at adds spec f rows)) same ∙ own_cells adds spec f rows 0 e

-- no two of them have one number
pub at_most_one : (f : Row → ℕ) (n : ℕ) (rows : List Row) (d : ℕ) → map f rows ≡ range_with_len d (length rows) → length (rows_at f rows n) ≤ 1
at_most_one f n [] d e = omega arith
at_most_one f n (r ∷ rows) d e = step (eqb (f r) n) (λ t. eqb-true (f r) n t) (at_most_one f n rows (d + 1) rest)
  where
    rest : map f rows ≡ range_with_len (d + 1) (length rows)
    rest = cc

    first : f r ≡ d
    first = cc

    step : (b : Bool) → (b ≡ true → f r ≡ n) → length (rows_at f rows n) ≤ 1 → length (cond b (r ∷ rows_at f rows n) (rows_at f rows n)) ≤ 1
    step true is h = let none = above f n rows (d + 1) rest (omega (arith, is refl, first)) in let e = ap (λ l. length l) none in omega arith
    step false is h = h
