-- How many rows come before a row, where rows stand in order.
use Rattle.std.proofs.Common.{◌≡◌, ℕ, suc, ◌+◌, ◌<◌, ◌≤◌, Bool, true, false, cond, eqb, List, [], ◌∷◌, ◌++◌, length, map, inl, inr, refl, ap, ap₂, sym, subst, ◌∙◌, arith, length-append}
use Rattle.std.specs.List.{AllByRecursion, range_with_len}
use Rattle.std.proofs.lemmas.Bool.{cases_order, cond-true, eq-eqb, eqb-true, false≢true, ne_eqb, lt-ltb, le-ltb}
use Rattle.std.proofs.lemmas.List.{append_assoc}
use Rattle.std.proofs.lemmas.List.Sums.{sum_by-append, sum_by-cons}
use Rattle.spl_values.specs.Tables.{TableParts}
use Rattle.cell_merge.specs.Rows.{Row}
use Rattle.query_reader.specs.declared.checked.Checked.{Checked}
use Rattle.count_sum.specs.SumPairs.{joined_key}
use Rattle.cell_runs.specs.CellsBy.{rows_at}
use Rattle.cell_runs.proofs.Groups.{Climbs}
use Rattle.count_sum.specs.Positions.{comes_before, count_before}

-- the rows' own numbers rise
abbrev pub NumbersClimb : List Row → Type 0
NumbersClimb [] = Unit {0}
NumbersClimb (r ∷ rows) = AllByRecursion (λ s. r.number < s.number) rows × NumbersClimb rows

module _ (checked : Checked) (t : TableParts) where
  abbrev jk : Row → ℕ
  jk = joined_key checked t

  -- a comes before b, and b doesn't before a
  abbrev pub Strict : Row → Row → Type 0
  Strict a b = (comes_before checked t a b ≡ true) × (comes_before checked t b a ≡ false)

  abbrev pub Strictly : List Row → Type 0
  Strictly [] = Unit {0}
  Strictly (r ∷ rows) = AllByRecursion (Strict r) rows × Strictly rows

  -- ---- rows in order

  by_key : (a b : Row) → jk a < jk b → Strict a b
  by_key a b h = rw (lt-ltb (jk a) (jk b) h, le-ltb (jk b) (jk a) (omega arith), ne_eqb (jk b) (jk a) (λ e. omega arith)) (refl, refl)

  by_number : (a b : Row) → jk a ≡ jk b → a.number < b.number → Strict a b
  by_number a b e h = rw (le-ltb (jk a) (jk b) (omega arith), le-ltb (jk b) (jk a) (omega arith), eq-eqb (jk a) (jk b) e, eq-eqb (jk b) (jk a) (sym e), lt-ltb a.number b.number h, le-ltb b.number a.number (omega arith)) (refl, refl)

  strict : (a b : Row) → jk a ≤ jk b → (jk b ≡ jk a → a.number < b.number) → Strict a b
  strict a b h n =
      elim (cases_order (jk a) (jk b)) [
        | inl e ↦ by_number a b e (n (sym e))
        | inr o ↦ elim o [
          | inl l ↦ by_key a b l
          | inr g ↦ absurd (omega arith)
        ]
      ]

  not_itself : (r : Row) → comes_before checked t r r ≡ false
  not_itself r = rw (le-ltb (jk r) (jk r) (omega arith), eq-eqb (jk r) (jk r) refl, le-ltb r.number r.number (omega arith)) refl

  each_strict : (r : Row) (rows : List Row) → AllByRecursion (λ s. jk r ≤ jk s) rows → AllByRecursion (λ s. r.number < s.number) (rows_at jk rows (jk r)) → AllByRecursion (Strict r) rows
  each_strict r [] up numbers = tt
  each_strict r (s ∷ rows) up numbers = step (eqb (jk s) (jk r)) (λ e. eqb-true (jk s) (jk r) e) (λ e. eq-eqb (jk s) (jk r) e) numbers (each_strict r rows up.1)
    where
      step : (b : Bool) → (b ≡ true → jk s ≡ jk r) → (jk s ≡ jk r → b ≡ true) → AllByRecursion (λ s. r.number < s.number) (cond b (s ∷ rows_at jk rows (jk r)) (rows_at jk rows (jk r)))
          → (AllByRecursion (λ s. r.number < s.number) (rows_at jk rows (jk r)) → AllByRecursion (Strict r) rows) → AllByRecursion (Strict r) (s ∷ rows)
      step true same back n rest = (strict r s up.0 (λ e. n.0), rest n.1)
      step false same back n rest = (strict r s up.0 (λ e. absurd (false≢true (back e))), rest n)

  fewer : (b : Bool) (r : Row) (rows : List Row) → NumbersClimb (cond b (r ∷ rows) rows) → NumbersClimb rows
  fewer true r rows h = h.1
  fewer false r rows h = h

  pub strictly : (rows : List Row) → Climbs jk rows → ((n : ℕ) → NumbersClimb (rows_at jk rows n)) → Strictly rows
  strictly [] up numbers = tt
  strictly (r ∷ rows) up numbers =
      let own : NumbersClimb (r ∷ rows_at jk rows (jk r)) = subst NumbersClimb (cond-true (eqb (jk r) (jk r)) (r ∷ rows_at jk rows (jk r)) (rows_at jk rows (jk r)) (eq-eqb (jk r) (jk r) refl)) (numbers (jk r)) in
      (each_strict r rows up.0 own.0, strictly rows up.1 (λ n. fewer (eqb (jk r) n) r (rows_at jk rows n) (numbers n)))

  -- ---- how many come before

  abbrev before : List Row → Row → ℕ
  before rows r = count_before checked t rows r

  all_before : (rows : List Row) (r : Row) → AllByRecursion (λ s. Strict s r) rows → before rows r ≡ length rows
  all_before [] r h = refl
  all_before (s ∷ rows) r h = sum_by-cons (λ s. cond (comes_before checked t s r) 1 0) s rows ∙ (ap₂ (λ b n. cond b 1 0 + n) h.0.0 (all_before rows r h.1) ∙ one_more (length rows))
    where
      one_more : (n : ℕ) → 1 + n ≡ suc n
      one_more n = omega arith

  none_before : (rows : List Row) (r : Row) → AllByRecursion (Strict r) rows → before rows r ≡ 0
  none_before [] r h = refl
  none_before (s ∷ rows) r h = sum_by-cons (λ s. cond (comes_before checked t s r) 1 0) s rows ∙ ap₂ (λ b n. cond b 1 0 + n) h.0.1 (none_before rows r h.1)

  here : (done : List Row) (r : Row) (rows : List Row) → AllByRecursion (λ d. Strict d r) done → AllByRecursion (Strict r) rows → before (done ++ r ∷ rows) r ≡ length done
  here done r rows earlier later =
      let own : before (r ∷ rows) r ≡ 0 = sum_by-cons (λ s. cond (comes_before checked t s r) 1 0) r rows ∙ ap₂ (λ b n. cond b 1 0 + n) (not_itself r) (none_before rows r later) in
      sum_by-append (λ s. cond (comes_before checked t s r) 1 0) done (r ∷ rows) ∙ (ap₂ (λ a b. a + b) (all_before done r earlier) own ∙ no_more (length done))
    where
      no_more : (n : ℕ) → n + 0 ≡ n
      no_more n = omega arith

  -- each of the first rows comes before each of the later
  abbrev Parted : List Row → List Row → Type 0
  Parted done rows = AllByRecursion (λ r. AllByRecursion (λ d. Strict d r) done) rows

  part_more : (done rows : List Row) (r : Row) → Parted done rows → AllByRecursion (Strict r) rows → Parted (done ++ r ∷ []) rows
  part_more done [] r p h = tt
  part_more done (s ∷ rows) r p h = (each-snoc done p.0, part_more done rows r p.1 h.1)
    where
      each-snoc : (l : List Row) → AllByRecursion (λ d. Strict d s) l → AllByRecursion (λ d. Strict d s) (l ++ r ∷ [])
      each-snoc [] q = (h.0, tt)
      each-snoc (y ∷ l) q = (q.0, each-snoc l q.1)

  counts : (done rows : List Row) → Strictly rows → Parted done rows → map (before (done ++ rows)) rows ≡ range_with_len (length done) (length rows)
  counts done [] up parted = refl
  counts done (r ∷ rows) up parted =
      let now = done ++ r ∷ [] in
      let whole : now ++ rows ≡ done ++ r ∷ rows = append_assoc done (r ∷ []) rows in
      let more : length now ≡ length done + 1 = length-append done (r ∷ []) in
      ap₂ (λ n l. n ∷ l) (here done r rows parted.0 up.0)
      (subst (λ l. map (before l) rows ≡ range_with_len (length now) (length rows)) whole (counts now rows up.1 (part_more done rows r parted.1 up.0)) ∙ ap (λ n. range_with_len n (length rows)) more)

  -- in strict order, so many rows come before each row as stand before it
  pub counted : (rows : List Row) → Strictly rows → map (before rows) rows ≡ range_with_len 0 (length rows)
  counted rows up = counts [] rows up (none_first rows)
    where
      none_first : (rows : List Row) → Parted [] rows
      none_first [] = tt
      none_first (r ∷ rows) = (tt, none_first rows)
