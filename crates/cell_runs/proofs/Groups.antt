-- Runs that are the cells by a number: of cells by a finer number, and of rows in order.
use Rattle.std.proofs.Common.{◌≡◌, ◌≢◌, ℕ, suc, ◌^◌, ◌<◌, ◌≤◌, Bool, true, false, ◌||◌, cond, eqb, List, [], ◌∷◌, ◌++◌, length, map, get_or, inl, inr, refl, ap, sym, subst, ◌∙◌, arith, length-append}
use Rattle.std.specs.List.{filter, fold, AllByRecursion}
use Rattle.std.specs.List.Sorted.{IsNonDecreasingBy}
use Rattle.std.proofs.lemmas.Bool.{eq-eqb, eqb-true, ne_eqb, false≢true, or_cases}
use Rattle.std.proofs.lemmas.List.{append_assoc, append-nil}
use Rattle.std.proofs.lemmas.List.Elements.{filter_agree, filter-append}
use Rattle.std.proofs.lemmas.Simd.{map-map}
use Rattle.spl_words.specs.Rising.{among, rising}
use Rattle.spl_words.proofs.Rising.{Rises, any-rising, Rises-rising, same_rising}
use Rattle.cell_merge.specs.declared.spec.CellSpec.{CellSpec}
use Rattle.cell_merge.specs.Rows.{Row, Apart, one_of}
use Rattle.cell_merge.specs.Cells.{Addends, cell}
use Rattle.cell_merge.proofs.Labels.{Apart-filter}
use Rattle.cell_merge.proofs.Lists.{each_weaker, Interleaves-append, Interleaves-parts, length-filter-le}
use Rattle.cell_runs.specs.CellsBy.{cells_by, rows_at}
use Rattle.cell_runs.specs.Runs.{put_behind, runs}
use Rattle.cell_runs.proofs.Grouping.{cell_at, put_one}
use Rattle.cell_runs.proofs.Numbers.{among_all, some_among}

abbrev some : {A : Type 0} → List A → Bool
some [] = false
some (x ∷ l) = true

no_rows : (adds : Addends) (spec : CellSpec) (number : Row → ℕ) → cells_by adds spec number [] ≡ []
unfolding rising
no_rows adds spec number = refl

-- ---- a coarser number

abbrev pub Keeps : (ℕ → ℕ) → Type 0
Keeps g = (m n : ℕ) → m ≤ n → g m ≤ g n

each_passing : (p : Row → Bool) (P : Row → Type 0) → ((r : Row) → p r ≡ true → P r) → (l : List Row) → AllByRecursion P (filter p l)
each_passing p P h [] = tt
each_passing p P h (r ∷ l) = step (p r) (h r) (each_passing p P h l)
  where
    step : (t : Bool) → (t ≡ true → P r) → AllByRecursion P (filter p l) → AllByRecursion P (cond t (r ∷ filter p l) (filter p l))
    step true h rest = (h refl, rest)
    step false h rest = rest

none_pass : (rows : List Row) → filter (λ (r : Row). false) rows ≡ []
none_pass [] = refl
none_pass (r ∷ rows) = none_pass rows

all_pass : (p : Row → Bool) (rows : List Row) → AllByRecursion (λ r. p r ≡ true) rows → filter p rows ≡ rows
all_pass p [] h = refl
all_pass p (r ∷ rows) h = ap (λ t. cond t (r ∷ filter p rows) (filter p rows)) h.0 ∙ ap (λ l. r ∷ l) (all_pass p rows h.1)

module _ (adds : Addends) (spec : CellSpec) (number : Row → ℕ) (g : ℕ → ℕ) (keeps : Keeps g) where
  abbrev coarser : Row → ℕ
  coarser r = g (number r)

  -- what passes p has a number below all of some
  abbrev Below : (Row → Bool) → List ℕ → Type 0
  Below p ns = (r : Row) → p r ≡ true → AllByRecursion (λ n. number r < n) ns

  more_below : (p : Row → Bool) (n : ℕ) (ns : List ℕ) → Below p (n ∷ ns) → AllByRecursion (λ m. n < m) ns → Below (λ r. p r || eqb (number r) n) ns
  more_below p n ns h d r t =
      elim (or_cases (p r) (eqb (number r) n) t) [
        | inl e ↦ (h r e).1
        | inr e ↦ let same : n ≡ number r = sym (eqb-true (number r) n e) in let P : ℕ → Type 0 = λ k. AllByRecursion (λ m. k < m) ns in subst P same d
      ]

  regroup : (ns : List ℕ) (p : Row → Bool) (rows : List Row) → Rises ns → Below p ns → AllByRecursion (λ n. 0 < length (rows_at number rows n)) ns → Apart rows → length rows < 2 ^ 64
      → fold (put_behind spec) (cells_by adds spec coarser (filter p rows)) (map (λ n. (g n, cell adds spec (rows_at number rows n))) ns)
      ≡ cells_by adds spec coarser (filter (λ r. p r || one_of ns (number r)) rows)
  regroup [] p rows rises below some apart few = ap (λ l. cells_by adds spec coarser l) (filter_agree p (λ r. p r || false) (λ r. or_nothing (p r)) rows)
    where
      or_nothing : (b : Bool) → b ≡ (b || false)
      or_nothing true = refl
      or_nothing false = refl
  regroup (n ∷ ns) p rows rises below some apart few =
      let q : Row → Bool = λ r. eqb (number r) n in
      let both : Row → Bool = λ r. p r || q r in
      let now = filter both rows in
      let rest : List (ℕ × List ℕ) = map (λ m. (g m, cell adds spec (rows_at number rows m))) ns in
      let own : AllByRecursion (λ r. coarser r ≡ g n) (filter q rows) = each_passing q (λ r. coarser r ≡ g n) (λ r t. ap g (eqb-true (number r) n t)) rows in
      let under : AllByRecursion (λ r. coarser r ≤ g n) (filter p rows) = each_passing p (λ r. coarser r ≤ g n) (λ r t. keeps (number r) n (weaken (number r) n (below r t).0)) rows in
      let short : length (rows_at coarser now (g n)) < 2 ^ 64 = let e = length-filter-le (λ r. eqb (coarser r) (g n)) now in let f = length-filter-le both rows in omega arith in
      ap (λ l. fold (put_behind spec) l rest)
      (put_one adds spec coarser (filter p rows) (filter q rows) now (g n)
      (Interleaves-parts p q (λ r t. ne_eqb (number r) n (differ (number r) n (below r t).0)) rows) own some.0
      (Apart-filter (λ r. eqb (coarser r) (g n)) now (Apart-filter both rows apart)) short under)
      ∙ (regroup ns both rows rises.1 (more_below p n ns below rises.0) some.1 apart few
      ∙ ap (λ l. cells_by adds spec coarser l) (filter_agree (λ r. both r || one_of ns (number r)) (λ r. p r || one_of (n ∷ ns) (number r)) (λ r. or_assoc (p r) (q r) (one_of ns (number r))) rows))
    where
      weaken : (m n : ℕ) → m < n → m ≤ n
      weaken m n h = omega arith

      differ : (m n : ℕ) → m < n → m ≢ n
      differ m n h e = omega arith

      or_assoc : (a b c : Bool) → ((a || b) || c) ≡ (a || (b || c))
      or_assoc true b c = refl
      or_assoc false b c = refl

  has_own : (rows : List Row) → AllByRecursion (λ r. one_of (map number rows) (number r) ≡ true) rows
  has_own [] = tt
  has_own (r ∷ rows) = (
    ap (λ t. t || one_of (map number rows) (number r)) (eq-eqb (number r) (number r) refl),
    each_weaker (λ s. one_of (map number rows) (number s) ≡ true) (λ s. one_of (number r ∷ map number rows) (number s) ≡ true) (λ s t. later (eqb (number s) (number r)) (one_of (map number rows) (number s)) t) rows (has_own rows),
  )
    where
      later : (a b : Bool) → b ≡ true → (a || b) ≡ true
      later true b e = refl
      later false b e = e

  -- the runs of cells by a finer number are the cells by the coarser
  pub regrouped : (rows : List Row) → Apart rows → length rows < 2 ^ 64
      → runs spec (map (λ p. (g p.0, p.1)) (cells_by adds spec number rows)) ≡ cells_by adds spec coarser rows
  regrouped rows apart few =
      let ns = rising (map number rows) in
      let some : AllByRecursion (λ n. 0 < length (rows_at number rows n)) ns = among_all (λ n. 0 < length (rows_at number rows n)) ns (λ n t. some_among number n rows (sym (any-rising (λ y. eqb y n) (map number rows)) ∙ t)) in
      let start : [] ≡ cells_by adds spec coarser (filter (λ r. false) rows) = sym (ap (λ l. cells_by adds spec coarser l) (none_pass rows) ∙ no_rows adds spec coarser) in
      let own : AllByRecursion (λ r. (false || one_of ns (number r)) ≡ true) rows = each_weaker (λ r. one_of (map number rows) (number r) ≡ true) (λ r. (false || one_of ns (number r)) ≡ true) (λ r t. any-rising (λ m. eqb (number r) m) (map number rows) ∙ t) rows (has_own rows) in
      ap (λ l. runs spec l) (map-map (λ (p : ℕ × List ℕ). (g p.0, p.1)) (cell_at adds spec number rows) ns)
      ∙ (ap (λ l. fold (put_behind spec) l (map (λ n. (g n, cell adds spec (rows_at number rows n))) ns)) start
      ∙ (regroup ns (λ r. false) rows (Rises-rising (map number rows)) (λ r t. absurd (false≢true t)) some apart few
      ∙ ap (λ l. cells_by adds spec coarser l) (all_pass (λ r. false || one_of ns (number r)) rows own)))

-- ---- rows in order

-- the numbers don't fall along the rows
abbrev pub Climbs : (Row → ℕ) → List Row → Type 0
Climbs number [] = Unit {0}
Climbs number (r ∷ rows) = AllByRecursion (λ s. number r ≤ number s) rows × Climbs number rows

pub climbs : (number : Row → ℕ) (rows : List Row) → IsNonDecreasingBy number rows → Climbs number rows
climbs number [] h = tt
climbs number (r ∷ rows) h = (each_later r rows (λ j d lt. h 0 (suc j) d (omega arith) (omega arith)), climbs number rows (λ i j d le lt. h (suc i) (suc j) d (omega arith) (omega arith)))
  where
    each_later : (r : Row) (rows : List Row) → ((j : ℕ) (d : Row) → j < length rows → number r ≤ number (get_or rows j d)) → AllByRecursion (λ s. number r ≤ number s) rows
    each_later r [] h = tt
    each_later r (s ∷ rows) h = (h 0 r (omega arith), each_later r rows (λ j d lt. h (suc j) d (omega arith)))

module _ (adds : Addends) (spec : CellSpec) (number : Row → ℕ) where
  -- every one of the first rows has a number that none of the later is below
  abbrev Under : List Row → List Row → Type 0
  Under done rows = AllByRecursion (λ r. AllByRecursion (λ s. number s ≤ number r) done) rows

  under_more : (done rows : List Row) (r : Row) → Under done rows → AllByRecursion (λ s. number r ≤ number s) rows → Under (done ++ r ∷ []) rows
  under_more done [] r u h = tt
  under_more done (x ∷ rows) r u h = (each-snoc (λ s. number s ≤ number x) done r u.0 h.0, under_more done rows r u.1 h.1)
    where
      each-snoc : (P : Row → Type 0) (l : List Row) (r : Row) → AllByRecursion P l → P r → AllByRecursion P (l ++ r ∷ [])
      each-snoc P [] r h q = (q, tt)
      each-snoc P (y ∷ l) r h q = (h.0, each-snoc P l r h.1 q)

  apart_front : (a b : List Row) → Apart (a ++ b) → Apart a
  apart_front [] b h = tt
  apart_front (r ∷ a) b h = (each_front (λ s. r.number ≢ s.number) a b h.0, apart_front a b h.1)
    where
      each_front : (P : Row → Type 0) (a b : List Row) → AllByRecursion P (a ++ b) → AllByRecursion P a
      each_front P [] b h = tt
      each_front P (x ∷ a) b h = (h.0, each_front P a b h.1)

  climb : (rows done : List Row) → Climbs number rows → Under done rows → ((n : ℕ) → Apart (rows_at number (done ++ rows) n)) → length (done ++ rows) < 2 ^ 64
      → fold (put_behind spec) (cells_by adds spec number done) (map (λ r. (number r, cell adds spec (r ∷ []))) rows) ≡ cells_by adds spec number (done ++ rows)
  climb [] done up under apart few = ap (λ l. cells_by adds spec number l) (sym (append-nil done))
  climb (r ∷ rows) done up under apart few =
      let now = done ++ r ∷ [] in
      let k = number r in
      let whole : now ++ rows ≡ done ++ r ∷ rows = append_assoc done (r ∷ []) rows in
      let all_apart : (n : ℕ) → Apart (rows_at number (now ++ rows) n) = λ n. subst (λ l. Apart (rows_at number l n)) (sym whole) (apart n) in
      let here : Apart (rows_at number now k) = apart_front (rows_at number now k) (rows_at number rows k) (subst Apart (filter-append (λ r. eqb (number r) k) now rows) (all_apart k)) in
      let longer : length (now ++ rows) < 2 ^ 64 = subst (λ l. length l < 2 ^ 64) (sym whole) few in
      let short : length (rows_at number now k) < 2 ^ 64 = let e = length-filter-le (λ r. eqb (number r) k) now in let f = length-append now rows in omega arith in
      ap (λ l. fold (put_behind spec) l (map (λ r. (number r, cell adds spec (r ∷ []))) rows))
      (put_one adds spec number done (r ∷ []) now k (Interleaves-append done (r ∷ [])) (refl, tt) (omega arith) here short under.0)
      ∙ (climb rows now up.1 (under_more done rows r under.1 up.0) all_apart longer
      ∙ ap (λ l. cells_by adds spec number l) whole)

  -- the runs of the cells of single rows, whose numbers don't fall, are the cells by that number
  pub in_order : (rows : List Row) → IsNonDecreasingBy number rows → ((n : ℕ) → Apart (rows_at number rows n)) → length rows < 2 ^ 64
      → runs spec (map (λ r. (number r, cell adds spec (r ∷ []))) rows) ≡ cells_by adds spec number rows
  in_order rows up apart few =
      ap (λ l. fold (put_behind spec) l (map (λ r. (number r, cell adds spec (r ∷ []))) rows)) (sym (no_rows adds spec number))
      ∙ climb rows [] (climbs number rows up) (under_none rows) apart few
    where
      under_none : (rows : List Row) → Under [] rows
      under_none [] = tt
      under_none (r ∷ rows) = (tt, under_none rows)

  -- ---- the same rows in another order

  among_at : (n : ℕ) (rows : List Row) → among (map number rows) n ≡ some (rows_at number rows n)
  among_at n [] = refl
  among_at n (r ∷ rows) = step (eqb (number r) n) (among_at n rows)
    where
      step : (t : Bool) → among (map number rows) n ≡ some (rows_at number rows n) → (t || among (map number rows) n) ≡ some (cond t (r ∷ rows_at number rows n) (rows_at number rows n))
      step true h = refl
      step false h = h

  -- the cells by a number are those of any rows of which the same have each number, in one order
  pub same_cells : (a b : List Row) → ((n : ℕ) → rows_at number a n ≡ rows_at number b n) → cells_by adds spec number a ≡ cells_by adds spec number b
  same_cells a b same =
      let numbers : rising (map number a) ≡ rising (map number b) = same_rising (rising (map number a)) (rising (map number b)) (Rises-rising (map number a)) (Rises-rising (map number b))
      (λ z. any-rising (λ y. eqb y z) (map number a) ∙ (among_at z a ∙ (ap some (same z) ∙ sym (any-rising (λ y. eqb y z) (map number b) ∙ among_at z b)))) in
      each_same (rising (map number a)) ∙ ap (λ l. map (cell_at adds spec number b) l) numbers
    where
      each_same : (l : List ℕ) → map (cell_at adds spec number a) l ≡ map (cell_at adds spec number b) l
      each_same [] = refl
      each_same (n ∷ l) = ap (λ r. (n, cell adds spec r) ∷ map (cell_at adds spec number a) l) (same n) ∙ ap (λ r. cell_at adds spec number b n ∷ r) (each_same l)
