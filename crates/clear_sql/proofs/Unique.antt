-- What an item means is one outcome alone.
use Rattle.std.proofs.Common.{◌≡◌, ℕ, suc, ◌<◌, ◌≤◌, Bool, true, false, cond, ltb, List, [], ◌∷◌, length, map, take, get_or, All, Contains, refl, sym, ap, subst, ◌∙◌, arith}
use Rattle.std.specs.List.{AllByRecursion, filter}
use Rattle.std.specs.List.Sorted.{IsSortedBy, ties}
use Rattle.std.proofs.lemmas.Bool.Decides.{nat_tests}
use Rattle.std.proofs.lemmas.List.Elements.{All-map, All-contains}
use Rattle.std.proofs.lemmas.List.Sorted.{IsStrictWeakOrder-by_number, IsStrictWeakOrder-flip, sorted_far}
use Rattle.spl_values.specs.Shapes.{ColumnParts}
use Rattle.cell_merge.specs.declared.spec.CellItem.{CellItem}
use Rattle.cell_merge.specs.declared.spec.CellItem.TheVariants.{Count, Sum, Avg, Max, Min, TopK}
use Rattle.cell_merge.specs.Rows.{Row, code}
use Rattle.cell_merge.specs.Entries.{ordered}
use Rattle.cell_merge.specs.Cells.{greatest, least}
use Rattle.clear_sql.specs.declared.answer.TopRow.{TopRow}
use Rattle.clear_sql.specs.declared.answer.Outcome.{Outcome}
use Rattle.clear_sql.specs.declared.answer.Outcome.TheVariants as outcome
use Rattle.clear_sql.specs.Clear.{value_in, is_better, top_row, clear_item}
use Rattle.clear_sql.specs.Meaning.{RowsRise, IsGreatest, IsLeast, IsBest, IsFalling, AreBest, IsOutcome, sorts_above}
use Rattle.clear_sql.proofs.Orders.{falling}
use Rattle.clear_sql.proofs.Meaning.{is_greatest, is_least}

-- ---- one falling order alone

-- none is above one before it
abbrev Descends : ℕ → List Row → Type 0
Descends sort [] = Unit {0}
Descends sort (x ∷ xs) = AllByRecursion (λ y. sorts_above sort y x ≡ false) xs × Descends sort xs

each_at : {A : Type 0} (P : A → Type 0) (xs : List A) → ((k : ℕ) (d : A) → k < length xs → P (get_or xs k d)) → AllByRecursion P xs
each_at P [] h = tt
each_at P (x ∷ xs) h = (h 0 x (omega arith), each_at P xs (λ k d l. h (suc k) d (omega arith)))

descends : (sort : ℕ) (xs : List Row) → ((i j : ℕ) (d : Row) → i ≤ j → j < length xs → sorts_above sort (get_or xs j d) (get_or xs i d) ≡ false) → Descends sort xs
descends sort [] h = tt
descends sort (x ∷ xs) h =
    (each_at (λ y. sorts_above sort y x ≡ false) xs (λ k d l. h 0 (suc k) d (omega arith) (omega arith)), descends sort xs (λ i j d l m. h (suc i) (suc j) d (omega arith) (omega arith)))

descends-sorted : (sort : ℕ) (xs : List Row) → IsSortedBy (sorts_above sort) xs → Descends sort xs
descends-sorted sort xs up =
    descends sort xs (sorted_far (sorts_above sort) (IsStrictWeakOrder-flip (λ x y. ltb (code sort x) (code sort y)) (IsStrictWeakOrder-by_number (code sort))) xs up)

module _ (sort : ℕ) where
  abbrev tied : Row → Row → Bool
  tied x y = ties (sorts_above sort) x y

  tied-self : (x : Row) → tied x x ≡ true
  tied-self x = grind (arith, nat_tests)

  tied-both : (x y : Row) → sorts_above sort x y ≡ false → sorts_above sort y x ≡ false → tied x y ≡ true
  tied-both x y h k = grind (arith, nat_tests)

  tied-back : (x y : Row) → tied x y ≡ false → tied y x ≡ false
  tied-back x y h = grind (arith, nat_tests)

  -- what a filter keeps first is one of the list
  first_kept : (P : Row → Type 0) (p : Row → Bool) (x : Row) (l m : List Row) → AllByRecursion P l → filter p l ≡ x ∷ m → P x
  first_kept P p x [] m h e = absurd cc
  first_kept P p x (y ∷ l) m h e = step (p y) (first_kept P p x l m h.1) e
    where
      step : (t : Bool) → (filter p l ≡ x ∷ m → P x) → cond t (y ∷ filter p l) (filter p l) ≡ x ∷ m → P x
      step true more k = let same : y ≡ x = cc in subst P same h.0
      step false more k = more k

  kept-yes : (p : Row → Bool) (x : Row) (l : List Row) → p x ≡ true → filter p (x ∷ l) ≡ x ∷ filter p l
  kept-yes p x l e = ap (λ t. cond t (x ∷ filter p l) (filter p l)) e

  kept-no : (p : Row → Bool) (x : Row) (l : List Row) → p x ≡ false → filter p (x ∷ l) ≡ filter p l
  kept-no p x l e = ap (λ t. cond t (x ∷ filter p l) (filter p l)) e

  tails : (p : Row → Bool) (x : Row) (a b : List Row) → filter p (x ∷ a) ≡ filter p (x ∷ b) → filter p a ≡ filter p b
  tails p x a b = step (p x)
    where
      step : (t : Bool) → cond t (x ∷ filter p a) (filter p a) ≡ cond t (x ∷ filter p b) (filter p b) → filter p a ≡ filter p b
      step true e = cc
      step false e = e

  -- the first of both are one row
  same_first : (x y : Row) (a b : List Row) → Descends sort (x ∷ a) → Descends sort (y ∷ b) → ((c : Row) → filter (tied c) (x ∷ a) ≡ filter (tied c) (y ∷ b)) → x ≡ y
  same_first x y a b down-a down-b same = step (tied x y) refl
    where
      step : (t : Bool) → tied x y ≡ t → x ≡ y
      step true e = let k = sym (kept-yes (tied x) x a (tied-self x)) ∙ same x ∙ kept-yes (tied x) y b e in cc
      step false e =
          let in_b = sym (same x ∙ kept-no (tied x) y b e) ∙ kept-yes (tied x) x a (tied-self x) in
          let in_a = sym (kept-no (tied y) x a (tied-back x y e)) ∙ same y ∙ kept-yes (tied y) y b (tied-self y) in
          let low = first_kept (λ z. sorts_above sort z y ≡ false) (tied x) x b (filter (tied x) a) down-b.0 in_b in
          let high = first_kept (λ z. sorts_above sort z x ≡ false) (tied y) y a (filter (tied y) b) down-a.0 in_a in
          let t = tied-both x y low high in
          absurd cc

  one_order : (a b : List Row) → Descends sort a → Descends sort b → ((c : Row) → filter (tied c) a ≡ filter (tied c) b) → a ≡ b
  one_order [] [] down-a down-b same = refl
  one_order [] (y ∷ b) down-a down-b same = let k = same y ∙ kept-yes (tied y) y b (tied-self y) in absurd cc
  one_order (x ∷ a) [] down-a down-b same = let k = sym (same x) ∙ kept-yes (tied x) x a (tied-self x) in absurd cc
  one_order (x ∷ a) (y ∷ b) down-a down-b same =
      let first : x ≡ y = same_first x y a b down-a down-b same in
      let rest : a ≡ b = one_order a b down-a.1 down-b.1 (λ c. tails (tied c) x a b (same c ∙ ap (λ z. filter (tied c) (z ∷ b)) (sym first))) in
      cc

  falling_alone : (rows a b : List Row) → IsFalling sort rows a → IsFalling sort rows b → a ≡ b
  falling_alone rows a b f g =
      one_order a b (descends-sorted sort a f.falling) (descends-sorted sort b g.falling) (λ c. f.equal_stay c ∙ sym (g.equal_stay c))

-- ---- one greatest and one least code alone

codes_bounded : (P : ℕ → Type 0) (c x : ℕ) (rows : List Row) → All (λ r. P (code c r)) rows → Contains (map (code c) rows) x → P x
codes_bounded P c x rows h k = All-contains P (map (code c) rows) x (All-map P (code c) rows h) k

one_greatest : (c x y : ℕ) (rows : List Row) → IsGreatest c rows x → IsGreatest c rows y → x ≡ y
one_greatest c x y rows a b =
    let low = codes_bounded (λ k. k ≤ x) c y rows a.bound b.had in
    let high = codes_bounded (λ k. k ≤ y) c x rows b.bound a.had in
    omega arith

one_least : (c x y : ℕ) (rows : List Row) → IsLeast c rows x → IsLeast c rows y → x ≡ y
one_least c x y rows a b =
    let low = codes_bounded (λ k. x ≤ k) c y rows a.bound b.had in
    let high = codes_bounded (λ k. y ≤ k) c x rows b.bound a.had in
    omega arith

none_had : (x : ℕ) → Contains [] x → ⊥
none_had x h = let l = h.1 in omega arith

-- ---- one outcome alone

max_alone : (columns : List ColumnParts) (c : ℕ) (rows : List Row) (o : Outcome) → IsBest (IsGreatest c rows) columns c rows o → o ≡ clear_item columns (Max c) rows
max_alone columns c rows outcome.Null h = ap (clear_item columns (Max c)) (sym h)
max_alone columns c [] (outcome.Best v) h = absurd (none_had h.0 h.1.had)
max_alone columns c (r ∷ rs) (outcome.Best v) h =
    ap outcome.Best (h.2 ∙ ap (value_in columns c) (one_greatest c h.0 (greatest (map (code c) (r ∷ rs))) (r ∷ rs) h.1 (is_greatest c r rs)))
max_alone columns c rows (outcome.Count n) h = absurd h
max_alone columns c rows (outcome.Sum n) h = absurd h
max_alone columns c rows (outcome.Avg s n) h = absurd h
max_alone columns c rows (outcome.Top t) h = absurd h

min_alone : (columns : List ColumnParts) (c : ℕ) (rows : List Row) (o : Outcome) → IsBest (IsLeast c rows) columns c rows o → o ≡ clear_item columns (Min c) rows
min_alone columns c rows outcome.Null h = ap (clear_item columns (Min c)) (sym h)
min_alone columns c [] (outcome.Best v) h = absurd (none_had h.0 h.1.had)
min_alone columns c (r ∷ rs) (outcome.Best v) h =
    ap outcome.Best (h.2 ∙ ap (value_in columns c) (one_least c h.0 (least (map (code c) (r ∷ rs))) (r ∷ rs) h.1 (is_least c r rs)))
min_alone columns c rows (outcome.Count n) h = absurd h
min_alone columns c rows (outcome.Sum n) h = absurd h
min_alone columns c rows (outcome.Avg s n) h = absurd h
min_alone columns c rows (outcome.Top t) h = absurd h

top_alone : (columns : List ColumnParts) (k s h : ℕ) (rows : List Row) (top : List TopRow) → RowsRise rows → AreBest columns k s h rows top → top ≡ map (top_row columns s h) (take k (ordered (is_better s) rows))
top_alone columns k s h rows top rise best =
    best.first ∙ ap (λ l. map (top_row columns s h) (take k l)) (falling_alone s rows best.sorted (ordered (is_better s) rows) best.order (falling s rows rise))

-- what an item means is what the clear answer gives
pub outcome_alone : (columns : List ColumnParts) (rows : List Row) (i : CellItem) (o : Outcome) → RowsRise rows → IsOutcome columns rows i o → o ≡ clear_item columns i rows
outcome_alone columns rows Count o rise h = h
outcome_alone columns rows (Sum c) o rise h = h
outcome_alone columns rows (Avg c) o rise h = h
outcome_alone columns rows (Max c) o rise h = max_alone columns c rows o h
outcome_alone columns rows (Min c) o rise h = min_alone columns c rows o h
outcome_alone columns rows (TopK k s show) (outcome.Top top) rise h = ap outcome.Top (top_alone columns k s show rows top rise h)
outcome_alone columns rows (TopK k s show) (outcome.Count n) rise h = absurd h
outcome_alone columns rows (TopK k s show) (outcome.Sum n) rise h = absurd h
outcome_alone columns rows (TopK k s show) (outcome.Avg sum n) rise h = absurd h
outcome_alone columns rows (TopK k s show) (outcome.Best v) rise h = absurd h
outcome_alone columns rows (TopK k s show) outcome.Null rise h = absurd h
