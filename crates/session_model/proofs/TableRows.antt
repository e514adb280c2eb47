-- What is known of the rows of a table: their codes and their joined keys.
use Rattle.std.proofs.Common.{◌≡◌, ℕ, zero, suc, ◌+◌, ◌^◌, ◌<◌, List, [], ◌∷◌, length, get_or, refl, arith}
use Rattle.std.specs.Prelude.{All, map, slice_index}
use Rattle.std.specs.List.{AllByRecursion, range_with_len}
use Rattle.std.proofs.lemmas.List.Elements.{All-head, All-tail}
use Rattle.spl_values.specs.Shapes.{ColumnParts, IsColumn}
use Rattle.spl_values.specs.Tables.{TableParts, IsTable, FitsRow, column_bits, column_code, key_of}
use Rattle.spl_values.specs.declared.values.Value.{Value}
use Rattle.spl_values.proofs.CodeLaws.{codes_below}
use Rattle.cell_merge.specs.Rows.{Row}
use Rattle.cell_merge.specs.TableRows.{codes_of, row_in, rows_of}
use Rattle.private_plan.specs.Branches.{RowHasBits, joined, row_key}

code_same : (cs : List ColumnParts) (vs : List Value) (i : ℕ) → FitsRow cs vs → slice_index (codes_of cs vs) i ≡ column_code cs vs i
unfolding codes_of column_code
code_same [] [] i h = refl
code_same [] (v ∷ vs) i h = absurd h
code_same (c ∷ cs) [] i h = absurd h
code_same (c ∷ cs) (v ∷ vs) zero h = refl
code_same (c ∷ cs) (v ∷ vs) (suc i) h = code_same cs vs i h.1

code_below : (cs : List ColumnParts) (vs : List Value) (i : ℕ) → All IsColumn cs → FitsRow cs vs → column_code cs vs i < 2 ^ column_bits cs i
unfolding column_bits column_code
code_below [] [] i typed h = omega arith
code_below [] (v ∷ vs) i typed h = absurd h
code_below (c ∷ cs) [] i typed h = absurd h
code_below (c ∷ cs) (v ∷ vs) zero typed h = codes_below c.kind v (All-head IsColumn c cs typed).typed h.0
code_below (c ∷ cs) (v ∷ vs) (suc i) typed h = code_below cs vs i (All-tail IsColumn c cs typed) h.1

module _ (t : TableParts) (valid : IsTable t) where
  columns : List ColumnParts
  columns = t.shape.schema.columns

  values : ℕ → List Value
  values n = get_or t.rows n []

  pub row_codes : (places : List ℕ) (n : ℕ) → n < length t.rows → RowHasBits t.shape.schema.columns places (row_in t n)
  row_codes [] n h = tt
  row_codes (i ∷ is) n h =
      let fits = valid.rows n [] h in
      let same = code_same t.shape.schema.columns (get_or t.rows n []) i fits in
      (rw same (code_below t.shape.schema.columns (get_or t.rows n []) i valid.shape.schema.columns fits), row_codes is n h)

  pub row_key_same : (places : List ℕ) (n : ℕ) → n < length t.rows → key_of t.shape.schema.columns (get_or t.rows n []) places ≡ row_key t.shape.schema.columns places (row_in t n)
  unfolding key_of joined
  row_key_same [] n h = refl
  row_key_same (i ∷ is) n h =
      let same = code_same t.shape.schema.columns (get_or t.rows n []) i (valid.rows n [] h) in
      rw (same, row_key_same is n h) refl

  from : (P : Row → Type 0) (a n : ℕ) → ((i : ℕ) → i < a + n → P (row_in t i)) → AllByRecursion P (map (row_in t) (range_with_len a n))
  from P a zero h = tt
  from P a (suc n) h = (h a (omega arith), from P (a + 1) n (λ i l. h i (omega (arith, l))))

  -- what holds of each row of the table
  pub each_row : (P : Row → Type 0) → ((n : ℕ) → n < length t.rows → P (row_in t n)) → AllByRecursion P (rows_of t)
  each_row P h = from P 0 (length t.rows) (λ i l. h i (omega (arith, l)))
