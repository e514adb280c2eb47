-- Slots stay within one value of the columns before the last: their ends agree above the last column's bits.
use Rattle.std.proofs.Common.{◌≡◌, ℕ, zero, suc, ◌+◌, ◌-◌, ◌*◌, ◌/◌, ◌^◌, ◌≤◌, min, max, Bool, true, false, nat_le, List, [], ◌∷◌, length, take, drop, Option, Some, None, option_map, inl, inr, refl, sym, ap, ◌∙◌, arith, IfSome, if◌then◌else◌}
use Rattle.std.specs.Prelude.{slice_index}
use Rattle.std.specs.List.{AllByRecursion, AllZip}
use Rattle.std.proofs.lemmas.Bool.{cases_lt}
use Rattle.std.proofs.lemmas.Nat.{pow_pos, pow-add}
use Rattle.std.proofs.Math.Nat.{div-eq_of_lt, max-eq_left, max-eq_right, min-eq_left, min-eq_right, mul-add-div_right, mul_assoc}
use Rattle.std.proofs.Math.Pow.{shr_mono}
use Rattle.spl_values.specs.Shapes.{ColumnParts}
use Rattle.spl_values.specs.Tables.{column_bits, key_bits}
use Rattle.interval_keys.specs.Intervals.{Span}
use Rattle.interval_keys.proofs.Merging.{Joins}
use Rattle.query_reader.specs.Matching.{branch_params}
use Rattle.query_reader.specs.Params.{HasBits, branch_columns, times}
use Rattle.private_plan.proofs.Spans.{front, back}
use Rattle.private_plan.specs.Branches.{raised, branch_span, branch_spans}
use Rattle.private_plan.specs.Plans.{last_bits}

-- the ends of an interval agree above the lowest w bits
abbrev pub Agrees : ℕ → Span → Type 0
Agrees w s = s.lo / 2 ^ w ≡ s.hi / 2 ^ w

-- ---- two that meet

least_part : (w x y : ℕ) → x / 2 ^ w ≡ y / 2 ^ w → min x y / 2 ^ w ≡ x / 2 ^ w
least_part w x y same =
    elim (cases_lt x y) [
      | inl a ↦ ap (λ n. n / 2 ^ w) (min-eq_left (omega (arith, a)))
      | inr a ↦ ap (λ n. n / 2 ^ w) (min-eq_right a) ∙ sym same
    ]

most_part : (w x y : ℕ) → x / 2 ^ w ≡ y / 2 ^ w → max x y / 2 ^ w ≡ x / 2 ^ w
most_part w x y same =
    elim (cases_lt x y) [
      | inl a ↦ ap (λ n. n / 2 ^ w) (max-eq_right (omega (arith, a))) ∙ sym same
      | inr a ↦ ap (λ n. n / 2 ^ w) (max-eq_left a)
    ]

same_part : (a b c d : ℕ) → a ≤ d → c ≤ b → a ≡ b → c ≡ d → a ≡ c
same_part a b c d h k p q = omega arith

pub joins_agree : (w : ℕ) → Joins (Agrees w)
joins_agree w s t h k p q =
    let same = same_part (s.lo / 2 ^ w) (s.hi / 2 ^ w) (t.lo / 2 ^ w) (t.hi / 2 ^ w) (shr_mono w h) (shr_mono w k) p q in
    least_part w s.lo t.lo same ∙ (p ∙ sym (most_part w s.hi t.hi (sym p ∙ (same ∙ q))))

-- ---- the interval of a branch

-- a number put before more bits than these stands above them
lifted : (w k p x : ℕ) → w ≤ k → (p * 2 ^ k + x) / 2 ^ w ≡ p * 2 ^ (k - w) + x / 2 ^ w
lifted w k p x h =
    let parts : 2 ^ k ≡ 2 ^ (k - w) * 2 ^ w = ap (λ n. 2 ^ n) (omega (arith, h)) ∙ pow-add 2 (k - w) w in
    ap (λ n. (p * n + x) / 2 ^ w) parts
    ∙ (ap (λ n. (n + x) / 2 ^ w) (sym (mul_assoc p (2 ^ (k - w)) (2 ^ w))) ∙ mul-add-div_right (pow_pos w) (p * 2 ^ (k - w)) x)

raised_agrees : (w k p : ℕ) (s : Option Span) → w ≤ k → IfSome s (Agrees w) → IfSome (option_map (raised (p * 2 ^ k)) s) (Agrees w)
raised_agrees w k p None h e = tt
raised_agrees w k p (Some s) h e = lifted w k p s.lo h ∙ (ap (λ n. p * 2 ^ (k - w) + n) e ∙ sym (lifted w k p s.hi h))

between_agrees : (w lo hi : ℕ) (b : Bool) → lo / 2 ^ w ≡ hi / 2 ^ w → IfSome {T = Span} (if b then Some (record { lo = lo; hi = hi }) else None) (Agrees w)
between_agrees w lo hi true e = e
between_agrees w lo hi false e = tt

last_next : (columns : List ColumnParts) (c d : ℕ) (cs : List ℕ) → last_bits columns (c ∷ d ∷ cs) ≡ last_bits columns (d ∷ cs)
last_next columns c d cs =
    let e : length (c ∷ d ∷ cs) - 1 ≡ suc (length (d ∷ cs) - 1) = omega arith in
    ap (λ i. column_bits columns (slice_index (c ∷ d ∷ cs) i)) e

last_within : (columns : List ColumnParts) (c : ℕ) (cs : List ℕ) → last_bits columns (c ∷ cs) ≤ key_bits columns (c ∷ cs)
unfolding key_bits
last_within columns c [] = omega arith
last_within columns c (d ∷ cs) = let more = last_within columns d cs in let e = last_next columns c d cs in omega (arith, more, e)

agrees_where : (columns : List ColumnParts) (places : List ℕ) (range : Bool) (params : List ℕ) → AllZip (HasBits columns) (branch_columns places range) params
    → IfSome (branch_span columns places range params) (Agrees (last_bits columns places))
unfolding branch_span
agrees_where columns [] range params z = refl
agrees_where columns (c ∷ []) true [] z = absurd z
agrees_where columns (c ∷ []) true (lo ∷ []) z = absurd z.1
agrees_where columns (c ∷ []) true (lo ∷ hi ∷ more) z = between_agrees (column_bits columns c) lo hi (nat_le lo hi) (div-eq_of_lt z.0 ∙ sym (div-eq_of_lt z.1.0))
agrees_where columns (c ∷ []) false [] z = absurd z
agrees_where columns (c ∷ []) false (p ∷ more) z = between_agrees (column_bits columns c) p p (nat_le p p) refl
agrees_where columns (c ∷ d ∷ cs) range [] z = absurd z
agrees_where columns (c ∷ d ∷ cs) range (p ∷ ps) z =
    rw (last_next columns c d cs)
    (raised_agrees (last_bits columns (d ∷ cs)) (key_bits columns (d ∷ cs)) p (branch_span columns (d ∷ cs) range ps) (last_within columns d cs) (agrees_where columns (d ∷ cs) range ps z.1))

module _ (columns : List ColumnParts) (places : List ℕ) (range : Bool) (some : 1 ≤ length places) where
  pub spans_agree : (n : ℕ) (params : List ℕ) → AllZip (HasBits columns) (times n (branch_columns places range)) params
      → AllByRecursion (λ s. IfSome s (Agrees (last_bits columns places))) (branch_spans columns n places range params)
  unfolding branch_spans
  spans_agree zero params z = tt
  spans_agree (suc n) params z =
      (agrees_where columns places range (take (branch_params places range) params) (front columns places range some n params z), spans_agree n (drop (branch_params places range) params) (back columns places range some n params z))
