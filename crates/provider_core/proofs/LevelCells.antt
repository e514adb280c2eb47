-- The cells of a level: how many there are, how many bits their numbers have, and those of the next level.
use Rattle.std.proofs.Common.{◌≡◌, ◌<◌, ◌≤◌, ◌+◌, ◌-◌, ◌*◌, ◌/◌, ◌^◌, ℕ, Bool, true, false, cond, ltb, eqb, List, [], ◌∷◌, length, map, refl, sym, ap, subst, ◌∙◌, arith}
use Rattle.std.specs.Prelude.{All}
use Rattle.std.specs.List.{AllByRecursion, flat_map}
use Rattle.std.proofs.lemmas.List.{length-map}
use Rattle.std.proofs.lemmas.List.Elements.{All-from_recursion, recursion_from_All}
use Rattle.std.proofs.lemmas.Nat.{shr-shr}
use Rattle.std.proofs.Math.Nat.{div-one}
use Rattle.spl_words.specs.Folds.{AreEntries}
use Rattle.spl_words.specs.Rising.{put_number, rising}
use Rattle.spl_words.proofs.Rising.{any-rising}
use Rattle.spl_values.specs.Tables.{IsTable, TableParts}
use Rattle.cell_merge.specs.Rows.{Row, Apart}
use Rattle.cell_merge.specs.Cells.{cell, cell_width}
use Rattle.cell_merge.specs.TableRows.{adds_in, rows_of}
use Rattle.cell_merge.specs.declared.cells.CellTable.{CellTable}
use Rattle.cell_merge.proofs.Lists.{each-map, each_weaker, length-filter-le}
use Rattle.cell_runs.specs.CellsBy.{ArePairs, cells_by, rows_at}
use Rattle.cell_runs.proofs.Numbers.{all_among, among_all}
use Rattle.clear_sql.proofs.GoodCells.{length-cell}
use Rattle.clear_sql.proofs.MatchingCells.{length-rows_of}
use Rattle.query_reader.specs.declared.checked.Checked.{Checked}
use Rattle.query_reader.specs.Matching.{is_kept, kept_rows}
use Rattle.count_sum.specs.SumPairs.{joined_key, sum_pairs}
use Rattle.count_sum.specs.Positions.{position}
use Rattle.private_plan.specs.Rounds.{rows, ones, by_key, by_position}
use Rattle.session_model.specs.Answers.{cells_at, entries_of, entry_width}
use Rattle.session_model.proofs.KeptRows.{kept_apart}
use Rattle.session_model.proofs.Told.{each_number, fewer_bits}
use Rattle.provider_core.specs.Cells.{AreCells, by_number}

-- ---- rising numbers are no more than those of the list

length-put : (x : ℕ) (l : List ℕ) → length (put_number x l) ≤ 1 + length l
unfolding put_number
length-put x [] = omega arith
length-put x (y ∷ ys) = by_order (ltb x y) (eqb x y) (length-put x ys)
  where
    by_order : (b c : Bool) → length (put_number x ys) ≤ 1 + length ys → length (cond b (x ∷ y ∷ ys) (cond c (y ∷ ys) (y ∷ put_number x ys))) ≤ 1 + length (y ∷ ys)
    by_order true c h = omega arith
    by_order false true h = omega arith
    by_order false false h = omega (arith, h)

length-rising : (l : List ℕ) → length (rising l) ≤ length l
unfolding rising
length-rising [] = omega arith
length-rising (x ∷ l) = let put = length-put x (rising l) in let rest = length-rising l in omega (arith, put, rest)

-- ---- the kept rows

module _ (checked : Checked) (t : TableParts) where
  kept_few : IsTable t → length (kept_rows checked t) ≤ 262144
  kept_few table =
      let fewer = length-filter-le (is_kept checked.public) (rows_of t) in
      let count = length-rows_of t in
      omega (arith, fewer, count, table.count, table.shape.few)

  pub few_rows : (keys cells : List ℕ) → IsTable t → AreEntries (cell_width checked.spec) (entries_of checked t rows) keys cells → length keys ≤ 262144
  few_rows keys cells table are =
      let same = ap (λ l. length l) are.each_number ∙ length-map (sum_pairs checked t) (λ (p : ℕ × List ℕ). p.0) ∙ length-map (kept_rows checked t) _ in
      let few = kept_few table in
      omega (arith, same, few)

  pub few_ones : (keys cells : List ℕ) → IsTable t → AreEntries 1 (entries_of checked t ones) keys cells → length keys ≤ 262144
  few_ones keys cells table are =
      let same = ap (λ l. length l) are.each_number ∙ length-map (entries_of checked t ones) (λ (p : ℕ × List ℕ). p.0) ∙ length-map (kept_rows checked t) _ in
      let few = kept_few table in
      omega (arith, same, few)

  -- ---- the cells of a level, by some number of a row

  module _ (number : Row → ℕ) where
    -- the number of a row without its lowest bits
    abbrev high : ℕ → Row → ℕ
    high level r = number r / 2 ^ level

    abbrev pairs_at : ℕ → List (ℕ × List ℕ)
    pairs_at level = cells_at checked t number level

    -- no more than 2^18 cells
    pub few_at : (level : ℕ) (keys cells : List ℕ) → IsTable t → AreEntries (cell_width checked.spec) (pairs_at level) keys cells → length keys ≤ 262144
    few_at level keys cells table are =
        let some = map (high level) (kept_rows checked t) in
        let same = ap (λ l. length l) are.each_number ∙ length-map (pairs_at level) (λ (p : ℕ × List ℕ). p.0) ∙ length-map (rising some) _ in
        let fewer = length-rising some in
        let long = length-map (kept_rows checked t) (high level) in
        let few = kept_few table in
        omega (arith, same, fewer, long, few)

    next_high : (level : ℕ) (r : Row) → high level r / 2 ≡ high (level + 1) r
    next_high level r = shr-shr (number r) level 1

    -- lifted, those of one level are those of the next
    pub next_at : (level : ℕ) (keys cells keys' cells' : List ℕ) → IsTable t
        → ((number : Row → ℕ) (some : List Row) → Apart some → length some < 2 ^ 64 → ArePairs (cell_width checked.spec) (cells_by (adds_in t.shape.schema.columns) checked.spec number some) keys cells
        → ArePairs (cell_width checked.spec) (cells_by (adds_in t.shape.schema.columns) checked.spec (λ r. number r / 2) some) keys' cells')
        → AreEntries (cell_width checked.spec) (pairs_at level) keys cells → AreEntries (cell_width checked.spec) (pairs_at (level + 1)) keys' cells'
    next_at level keys cells keys' cells' table lifted are =
        let few = kept_few table in
        let pairs = lifted (high level) (kept_rows checked t) (kept_apart checked t) (omega (arith, few)) (record { each_key = are.each_number; each_cell = are.each_cell; wide = are.wide }) in
        let same = ap (λ (number : Row → ℕ). cells_by (adds_in t.shape.schema.columns) checked.spec number (kept_rows checked t)) (λ i r. next_high level r i) in
        let next = subst (λ l. ArePairs (cell_width checked.spec) l keys' cells') same pairs in
        record { each_number = next.each_key; each_cell = next.each_cell; wide = next.wide }

    -- each row's number is one that a cell is under
    of_rows : (P : ℕ → Type 0) (level : ℕ) (keys cells : List ℕ) → AreEntries (cell_width checked.spec) (pairs_at level) keys cells → All P keys → AllByRecursion (λ r. P (high level r)) (kept_rows checked t)
    of_rows P level keys cells are all =
        let some = map (high level) (kept_rows checked t) in
        let under : keys ≡ rising some = are.each_number ∙ numbers_of (rising some) in
        let each = among_all P some (λ x is. all_among P (rising some) x (subst (AllByRecursion P) under (recursion_from_All P keys all)) (any-rising (λ y. eqb y x) some ∙ is)) in
        each_back (kept_rows checked t) each
      where
        numbers_of : (l : List ℕ) → map (λ (p : ℕ × List ℕ). p.0) (map (λ n. (n, cell (adds_in t.shape.schema.columns) checked.spec (rows_at (high level) (kept_rows checked t) n))) l) ≡ l
        numbers_of [] = refl
        numbers_of (n ∷ l) = ap (λ m. n ∷ m) (numbers_of l)

        each_back : (rs : List Row) → AllByRecursion P (map (high level) rs) → AllByRecursion (λ r. P (high level r)) rs
        each_back [] h = tt
        each_back (r ∷ rs) h = (h.0, each_back rs h.1)

    -- the numbers of the next level have a bit less
    pub below_next : (level bits : ℕ) (keys cells keys' cells' : List ℕ) → 1 ≤ bits → AreEntries (cell_width checked.spec) (pairs_at level) keys cells → All (λ x. x < 2 ^ bits) keys
        → AreEntries (cell_width checked.spec) (pairs_at (level + 1)) keys' cells' → All (λ x. x < 2 ^ (bits - 1)) keys'
    below_next level bits keys cells keys' cells' some are below next =
        let P : ℕ → Type 0 = λ x. x < 2 ^ (bits - 1) in
        let one : bits - (bits - 1) ≡ 1 = omega (arith, some) in
        let left : (r : Row) → high level r < 2 ^ bits → P (high (level + 1) r) = λ r here. rw (← next_high level r) (rw one at (fewer_bits bits (bits - 1) (high level r) (omega arith) here)) in
        let rows = each_weaker (λ r. high level r < 2 ^ bits) (λ r. P (high (level + 1) r)) left (kept_rows checked t) (of_rows (λ x. x < 2 ^ bits) level keys cells are below) in
        let each = each_number P (adds_in t.shape.schema.columns) checked.spec (high (level + 1)) (kept_rows checked t) rows in
        All-from_recursion P keys' (subst (AllByRecursion P) (sym next.each_number) (each-map P (λ (p : ℕ × List ℕ). p.0) (pairs_at (level + 1)) each))

    -- each cell has the words of a cell
    wide_of : (number : Row → ℕ) (l : List ℕ) → AllByRecursion (λ (p : ℕ × List ℕ). length p.1 ≡ cell_width checked.spec) (map (λ n. (n, cell (adds_in t.shape.schema.columns) checked.spec (rows_at number (kept_rows checked t) n))) l)
    wide_of number [] = tt
    wide_of number (n ∷ l) = (length-cell (adds_in t.shape.schema.columns) checked.spec (rows_at number (kept_rows checked t) n), wide_of number l)

    -- the cells by the number itself
    abbrev all_pairs : List (ℕ × List ℕ)
    all_pairs = cells_by (adds_in t.shape.schema.columns) checked.spec number (kept_rows checked t)

    -- are those of level 0
    level_zero : all_pairs ≡ pairs_at 0
    level_zero = ap (λ (n : Row → ℕ). cells_by (adds_in t.shape.schema.columns) checked.spec n (kept_rows checked t)) (λ i r. sym (div-one (number r)) i)

    pub zero_entries : (keys cells : List ℕ) → keys ≡ map (λ (q : ℕ × List ℕ). q.0) all_pairs → cells ≡ flat_map (λ (q : ℕ × List ℕ). q.1) all_pairs → AreEntries (cell_width checked.spec) (pairs_at 0) keys cells
    zero_entries keys cells ks cs =
        subst (λ l. AreEntries (cell_width checked.spec) l keys cells) level_zero
        (record { each_number = ks; each_cell = cs; wide = wide_of number (rising (map number (kept_rows checked t))) })

  -- ---- the cells of a round

  -- the number of a row that the cells of a round are by
  abbrev pub row_number : ℕ → Row → ℕ
  row_number round = cond (eqb round 2) (position checked t) (joined_key checked t)

  pub round_entries : (round level : ℕ) → entries_of checked t (by_number round level) ≡ cells_at checked t (row_number round) level
  round_entries round level = by_test (eqb round 2) where
    by_test : (b : Bool) → entries_of checked t (cond b (by_position level) (by_key level)) ≡ cells_at checked t (cond b (position checked t) (joined_key checked t)) level
    by_test true = refl
    by_test false = refl

  pub round_width : (round level : ℕ) → entry_width checked (by_number round level) ≡ cell_width checked.spec
  round_width round level = by_test (eqb round 2) where
    by_test : (b : Bool) → entry_width checked (cond b (by_position level) (by_key level)) ≡ cell_width checked.spec
    by_test true = refl
    by_test false = refl

  -- the cells of a round by that number
  pub by_row_number : (round level bits : ℕ) (c : CellTable) → AreCells checked t (by_number round level) bits c → AreEntries (cell_width checked.spec) (cells_at checked t (row_number round) level) c.keys c.cells
  by_row_number round level bits c are =
      subst (λ l. AreEntries (cell_width checked.spec) l c.keys c.cells) (round_entries round level)
      (subst (λ w. AreEntries w (entries_of checked t (by_number round level)) c.keys c.cells) (round_width round level) are.each)

  pub from_row_number : (round level bits : ℕ) (c : CellTable) → AreEntries (cell_width checked.spec) (cells_at checked t (row_number round) level) c.keys c.cells → c.width ≡ cell_width checked.spec
      → length c.cells ≡ length c.keys * c.width → All (λ x. x < 2 ^ bits) c.keys → AreCells checked t (by_number round level) bits c
  from_row_number round level bits c each width whole below = record {
    each = subst (λ w. AreEntries w (entries_of checked t (by_number round level)) c.keys c.cells) (sym (round_width round level)) (subst (λ l. AreEntries (cell_width checked.spec) l c.keys c.cells) (sym (round_entries round level)) each);
    width = width ∙ sym (round_width round level);
    whole = whole;
    below = below;
  }
