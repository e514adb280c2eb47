-- The cells of the rows that pass tests merge to the cell of the rows that pass one of them, where none passes two.
use Rattle.std.proofs.Common.{◌≡◌, ℕ, ◌+◌, ◌^◌, ◌<◌, ◌≤◌, Bool, true, false, ◌||◌, cond, List, [], ◌∷◌, length, map, inl, inr, refl, ap, sym, ◌∙◌, arith}
use Rattle.std.specs.List.{AllByRecursion, filter, fold, list_any, sum_by}
use Rattle.std.proofs.lemmas.Bool.{cases_Bool, false≢true, or_cases}
use Rattle.std.proofs.lemmas.List.Elements.{filter_agree}
use Rattle.std.proofs.lemmas.List.Sums.{sum_by-cons}
use Rattle.cell_merge.specs.declared.spec.CellSpec.{CellSpec}
use Rattle.cell_merge.specs.Rows.{Row, Apart, Interleaves}
use Rattle.cell_merge.specs.Rows.Interleaves.{none, left, right}
use Rattle.cell_merge.specs.Cells.{Addends, cell, empty_cell, merge, merge_all}
use Rattle.cell_merge.proofs.All.{cell_empty}
use Rattle.cell_merge.proofs.Labels.{Apart-filter, cell_merge}
use Rattle.cell_merge.proofs.Lists.{length-filter-le}

-- ---- rows that pass one of two tests

one_step : {A : Type 0} (s t : Bool) (x : A) (a b c : List A) → (s ≡ true → t ≡ false) → Interleaves a b c
    → Interleaves (cond s (x ∷ a) a) (cond t (x ∷ b) b) (cond (s || t) (x ∷ c) c)
one_step true true x a b c h i = absurd (false≢true (sym (h refl)))
one_step true false x a b c h i = left x a b c i
one_step false true x a b c h i = right x a b c i
one_step false false x a b c h i = i

-- what passes one of two tests of which no item of a list passes both
one_of_two : {A : Type 0} (p q : A → Bool) (l : List A) → AllByRecursion (λ x. p x ≡ true → q x ≡ false) l → Interleaves (filter p l) (filter q l) (filter (λ x. p x || q x) l)
one_of_two p q [] h = none
one_of_two p q (x ∷ l) h = one_step (p x) (q x) x (filter p l) (filter q l) (filter (λ x. p x || q x) l) h.0 (one_of_two p q l h.1)

-- ---- how many tests pass

module _ {T : Type 0} (passes : T → Row → Bool) where
  -- how many of some tests a row passes
  abbrev pub times_passed : List T → Row → ℕ
  times_passed ts r = sum_by (λ t. cond (passes t r) 1 0) ts

  -- whether it passes one of them
  abbrev pub passes_one : List T → Row → Bool
  passes_one ts r = list_any (λ t. passes t r) ts

  first_test : (t : T) (ts : List T) (r : Row) → times_passed (t ∷ ts) r ≡ cond (passes t r) 1 0 + times_passed ts r
  first_test t ts r = sum_by-cons (λ u. cond (passes u r) 1 0) t ts

  never : (ts : List T) (r : Row) → times_passed ts r ≡ 0 → passes_one ts r ≡ false
  never [] r e = refl
  never (t ∷ ts) r e = step (passes t r) (never ts r) (sym (first_test t ts r) ∙ e)
    where
      step : (b : Bool) → (times_passed ts r ≡ 0 → passes_one ts r ≡ false) → cond b 1 0 + times_passed ts r ≡ 0 → (b || passes_one ts r) ≡ false
      step true h e = absurd (omega arith)
      step false h e = h (omega arith)

  fewer : (t : T) (ts : List T) (r : Row) → times_passed (t ∷ ts) r ≤ 1 → times_passed ts r ≤ 1
  fewer t ts r h = let e = first_test t ts r in omega arith

  no_more : (t : T) (ts : List T) (r : Row) → passes t r ≡ true → times_passed (t ∷ ts) r ≤ 1 → passes_one ts r ≡ false
  no_more t ts r is h = never ts r (step (passes t r) is (first_test t ts r) h)
    where
      step : (b : Bool) → b ≡ true → times_passed (t ∷ ts) r ≡ cond b 1 0 + times_passed ts r → times_passed (t ∷ ts) r ≤ 1 → times_passed ts r ≡ 0
      step true e f h = omega arith
      step false e f h = absurd (false≢true e)

  not_passed : (ts : List T) (r : Row) → passes_one ts r ≡ false → times_passed ts r ≡ 0
  not_passed [] r f = refl
  not_passed (t ∷ ts) r f = first_test t ts r ∙ step (passes t r) (not_passed ts r) f
    where
      step : (b : Bool) → (passes_one ts r ≡ false → times_passed ts r ≡ 0) → (b || passes_one ts r) ≡ false → cond b 1 0 + times_passed ts r ≡ 0
      step true h e = absurd (false≢true (sym e))
      step false h e = let z = h e in omega arith

  -- a row that passes one test or none passes one exactly where it is said to
  pub passed_where : (ts : List T) (r : Row) (b : Bool) → times_passed ts r ≡ cond b 1 0 → passes_one ts r ≡ b
  passed_where ts r false e = never ts r e
  passed_where ts r true e =
      elim (cases_Bool (passes_one ts r)) [
        | inl t ↦ t
        | inr f ↦ absurd (let z = not_passed ts r f in omega arith)
      ]

  pub passed_once : (ts : List T) (r : Row) (b : Bool) → times_passed ts r ≡ cond b 1 0 → times_passed ts r ≤ 1
  passed_once ts r true e = omega arith
  passed_once ts r false e = omega arith

-- ---- cells

none_pass : (rows : List Row) → filter (λ (r : Row). false) rows ≡ []
none_pass [] = refl
none_pass (r ∷ rows) = none_pass rows

or_parts : (a b : Bool) → (a || b) ≡ false → (a ≡ false) × (b ≡ false)
or_parts true b e = absurd (false≢true (sym e))
or_parts false b e = (refl, e)

module _ {T : Type 0} (adds : Addends) (spec : CellSpec) (passes : T → Row → Bool) (rows : List Row) (apart : Apart rows) (few : length rows < 2 ^ 64) where
  abbrev tested_cell : T → List ℕ
  tested_cell t = cell adds spec (filter (passes t) rows)

  pick : (p q : Row → Bool) → AllByRecursion (λ r. p r ≡ true → q r ≡ false) rows
      → merge spec (cell adds spec (filter p rows)) (cell adds spec (filter q rows)) ≡ cell adds spec (filter (λ r. p r || q r) rows)
  pick p q apart_tests =
      let both : Row → Bool = λ r. p r || q r in
      let fits : length (filter both rows) < 2 ^ 64 = let short = length-filter-le both rows in omega arith in
      cell_merge adds spec (filter p rows) (filter q rows) (filter both rows) (one_of_two p q rows apart_tests) (Apart-filter both rows apart) fits

  -- a row passes one test at most, and none that p tells
  abbrev Alone : (Row → Bool) → List T → Row → Type 0
  Alone p ts r = (p r ≡ true → passes_one passes ts r ≡ false) × (times_passed passes ts r ≤ 1)

  first_alone : (p : Row → Bool) (t : T) (ts : List T) (rs : List Row) → AllByRecursion (Alone p (t ∷ ts)) rs → AllByRecursion (λ r. p r ≡ true → passes t r ≡ false) rs
  first_alone p t ts [] h = tt
  first_alone p t ts (r ∷ rs) h = ((λ is. (or_parts (passes t r) (passes_one passes ts r) (h.0.0 is)).0), first_alone p t ts rs h.1)

  rest_alone : (p : Row → Bool) (t : T) (ts : List T) (rs : List Row) → AllByRecursion (Alone p (t ∷ ts)) rs → AllByRecursion (Alone (λ r. p r || passes t r) ts) rs
  rest_alone p t ts [] h = tt
  rest_alone p t ts (r ∷ rs) h = ((after h.0, fewer passes t ts r h.0.1), rest_alone p t ts rs h.1)
    where
      after : Alone p (t ∷ ts) r → (p r || passes t r) ≡ true → passes_one passes ts r ≡ false
      after a is =
          elim (or_cases (p r) (passes t r) is) [
            | inl e ↦ (or_parts (passes t r) (passes_one passes ts r) (a.0 e)).1
            | inr e ↦ no_more passes t ts r e a.1
          ]

  fold_tests : (ts : List T) (p : Row → Bool) → AllByRecursion (Alone p ts) rows
      → fold (merge spec) (cell adds spec (filter p rows)) (map tested_cell ts) ≡ cell adds spec (filter (λ r. p r || passes_one passes ts r) rows)
  fold_tests [] p alone = ap (λ l. cell adds spec l) (filter_agree p (λ r. p r || false) (λ r. or_nothing (p r)) rows)
    where
      or_nothing : (b : Bool) → b ≡ (b || false)
      or_nothing true = refl
      or_nothing false = refl
  fold_tests (t ∷ ts) p alone =
      let both : Row → Bool = λ r. p r || passes t r in
      ap (λ c. fold (merge spec) c (map tested_cell ts)) (pick p (passes t) (first_alone p t ts rows alone))
      ∙ (fold_tests ts both (rest_alone p t ts rows alone)
      ∙ ap (λ l. cell adds spec l) (filter_agree (λ r. both r || passes_one passes ts r) (λ r. p r || passes_one passes (t ∷ ts) r) (λ r. or_assoc (p r) (passes t r) (passes_one passes ts r)) rows))
    where
      or_assoc : (a b c : Bool) → ((a || b) || c) ≡ (a || (b || c))
      or_assoc true b c = refl
      or_assoc false b c = refl

  start_alone : (ts : List T) (rs : List Row) → AllByRecursion (λ r. times_passed passes ts r ≤ 1) rs → AllByRecursion (Alone (λ r. false) ts) rs
  start_alone ts [] h = tt
  start_alone ts (r ∷ rs) h = (((λ is. absurd (false≢true is)), h.0), start_alone ts rs h.1)

  pub tested_merge : (ts : List T) → AllByRecursion (λ r. times_passed passes ts r ≤ 1) rows → merge_all spec (map tested_cell ts) ≡ cell adds spec (filter (passes_one passes ts) rows)
  tested_merge ts once =
      let start : empty_cell spec ≡ cell adds spec (filter (λ r. false) rows) = sym (cell_empty adds spec) ∙ ap (λ l. cell adds spec l) (sym (none_pass rows)) in
      ap (λ c. fold (merge spec) c (map tested_cell ts)) start ∙ fold_tests ts (λ r. false) (start_alone ts rows once)
