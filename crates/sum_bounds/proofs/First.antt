-- The first row at which a column's sum is over its bound.
use Rattle.std.proofs.Common.{◌≡◌, ◌<◌, ◌+◌, ◌-◌, ℕ, zero, suc, Bool, true, false, not, cond, length, take, Option, Some, None, refl, sym, ap, ◌∙◌, arith, inl, inr, option_map}
use Rattle.std.specs.List.{find, range_with_len}
use Rattle.std.proofs.lemmas.Bool.{cases_lt}
use Rattle.cell_merge.specs.TableRows.{rows_of}
use Rattle.spl_values.specs.Tables.{TableParts}
use Rattle.sum_bounds.specs.declared.AtRow.{AtRow}
use Rattle.sum_bounds.specs.Sums.{is_bounded, IsFirstOver}
use Rattle.sum_bounds.specs.Bounds.{at_row, first_over}
use Rattle.sum_bounds.proofs.Steps.{all_rows, below, length-rows, sum-part, within}

-- none of some numbers passes
find_none : (p : ℕ → Bool) (a n : ℕ) → ((i : ℕ) → i < n → p (a + i) ≡ false) → find p (range_with_len a n) ≡ None
find_none p a zero h = refl
find_none p a (suc n) h =
    let here : p a ≡ false = ap p (omega arith) ∙ h 0 (omega arith) in
    rw here (find_none p (a + 1) n (λ i b. ap p (omega arith) ∙ h (i + 1) (omega arith)))

-- the first of some numbers that passes
find_first : (p : ℕ → Bool) (a n k : ℕ) → k < n → ((i : ℕ) → i < k → p (a + i) ≡ false) → p (a + k) ≡ true → find p (range_with_len a n) ≡ Some (a + k)
find_first p a zero k below before here = absurd (omega arith)
find_first p a (suc n) zero below before here =
    let same : a + 0 ≡ a = omega arith in
    let now : p a ≡ true = ap p (sym same) ∙ here in
    rw now (ap Some (sym same))
find_first p a (suc n) (suc k) below before here =
    let passed : p a ≡ false = ap p (omega arith) ∙ before 0 (omega arith) in
    let later : p ((a + 1) + k) ≡ true = ap p (omega arith) ∙ here in
    rw passed (find_first p (a + 1) n k (omega arith) (λ i b. ap p (omega arith) ∙ before (i + 1) (omega arith)) later ∙ ap Some (omega arith))

-- where none is found none passes
passed_over : (p : ℕ → Bool) (a i : ℕ) (t : Bool) (rest : Option ℕ) → p a ≡ t → cond t (Some a) rest ≡ None → (rest ≡ None → (j : ℕ) → i ≡ suc j → p ((a + 1) + j) ≡ false) → p (a + i) ≡ false
passed_over p a i true rest e none later = absurd cc
passed_over p a zero false rest e none later = ap p (omega arith) ∙ e
passed_over p a (suc j) false rest e none later = ap p (omega arith) ∙ later none j refl

none_found : (p : ℕ → Bool) (a n i : ℕ) → find p (range_with_len a n) ≡ None → i < n → p (a + i) ≡ false
none_found p a zero i h b = absurd (omega arith)
none_found p a (suc n) i h b = passed_over p a i (p a) (find p (range_with_len (a + 1) n)) refl h (λ none j is. none_found p (a + 1) n j none (omega (arith, is, b)))

no_place : (f : ℕ → AtRow) (o : Option ℕ) → option_map f o ≡ None → o ≡ None
no_place f None h = refl
no_place f (Some i) h = absurd cc

is_true : (b : Bool) → not b ≡ false → b ≡ true
is_true true h = refl
is_true false h = absurd cc

module _ (t : TableParts) (column : ℕ) where
  -- the sum of the rows up to one is over its bound
  abbrev over_at : ℕ → Bool
  over_at row = not (is_bounded t.shape.schema.columns column (take (row + 1) (rows_of t)))

  -- a bounded sum is over nowhere
  pub none_over : is_bounded t.shape.schema.columns column (rows_of t) ≡ true → first_over t.shape.schema.columns column (rows_of t) ≡ None
  unfolding first_over
  none_over h =
      let all = below t.shape.schema.columns column (rows_of t) h in
      ap (option_map (at_row t.shape.schema.columns column (rows_of t)))
      (find_none over_at 0 (length (rows_of t)) (λ i b. ap not (within t.shape.schema.columns column (take ((0 + i) + 1) (rows_of t)) (let part = sum-part t column ((0 + i) + 1) in omega (arith, part, all)))))

  -- the first row that is over is found
  pub found_over : (row sum : ℕ) → IsFirstOver t.shape.schema.columns column (rows_of t) row sum → first_over t.shape.schema.columns column (rows_of t) ≡ Some (record { row = row; sum = sum })
  unfolding first_over
  found_over row sum is =
      let none : 0 + row ≡ row = omega arith in
      let found = find_first over_at 0 (length (rows_of t)) row is.within
      (λ i b. let same : 0 + i ≡ i = omega arith in rw same (ap not (is.first i b))) (rw none (ap not is.over))
      in
      ap (option_map (at_row t.shape.schema.columns column (rows_of t))) (found ∙ ap Some none) ∙ ap (λ n. Some (record { row = row; sum = n })) (sym is.total)

  -- where none is over, the sum of all is bounded
  pub bounded : first_over t.shape.schema.columns column (rows_of t) ≡ None → is_bounded t.shape.schema.columns column (rows_of t) ≡ true
  unfolding first_over
  bounded h =
      let n = length (rows_of t) in
      elim (cases_lt 0 n) [
        | inl some ↦ (let none = no_place (at_row t.shape.schema.columns column (rows_of t)) (find over_at (range_with_len 0 n)) h in
            let last = is_true (is_bounded t.shape.schema.columns column (take ((0 + (n - 1)) + 1) (rows_of t))) (none_found over_at 0 n (n - 1) none (omega arith)) in
            let all = all_rows t column ((0 + (n - 1)) + 1) (omega (arith, length-rows t column)) in
            sym (ap (is_bounded t.shape.schema.columns column) all) ∙ last)
        | inr no_rows ↦ (let all = all_rows t column 0 (omega (arith, length-rows t column)) in ap (is_bounded t.shape.schema.columns column) (sym all))
      ]
