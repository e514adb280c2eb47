-- The intervals of joined keys that the branches of a query allow.
use Rattle.std.specs.Prelude.{ℕ, zero, suc, ◌+◌, ◌*◌, ◌^◌, Bool, true, false, nat_le, List, [], ◌∷◌, take, drop, map, Option, None, Some, option_map, if◌then◌else◌}
use Rattle.spl_values.specs.Shapes.{ColumnParts}
use Rattle.spl_values.specs.Tables.{key_bits}
use Rattle.interval_keys.specs.Intervals.{Span}
use Rattle.interval_keys.specs.Slots.{holds}
use Rattle.cell_merge.specs.Rows.{Row, code}
use Rattle.query_reader.specs.Matching.{branch_params}
use Rattle.query_reader.specs.Params.{HasBits}
use Rattle.std.specs.List.{AllByRecursion}

-- codes one after another in binary, each in its column's bits, the first column highest
unfoldable pub joined : List ColumnParts → List ℕ → List ℕ → ℕ
joined columns (i ∷ is) (p ∷ ps) = p * 2 ^ key_bits columns is + joined columns is ps
joined columns _ _ = 0

-- the joined key of a row over these columns
abbrev pub row_key : List ColumnParts → List ℕ → Row → ℕ
row_key columns places r = joined columns places (map (λ i. code i r) places)

-- the codes of a row at some columns have no more than the columns' bits
abbrev pub RowHasBits : List ColumnParts → List ℕ → Row → Type 0
RowHasBits columns places r = AllByRecursion (λ i. HasBits columns i (code i r)) places

-- the numbers from one to another, or none where they are crossed
abbrev pub span_between : ℕ → ℕ → Option Span
span_between lo hi = if nat_le lo hi then Some (record { lo = lo; hi = hi }) else None

-- an interval with a number added to both ends
abbrev pub raised : ℕ → Span → Span
raised n s = record { lo = n + s.lo; hi = n + s.hi }

-- the joined keys that a branch allows: the codes of its equalities one after another, and behind them its range
unfoldable pub branch_span : List ColumnParts → List ℕ → Bool → List ℕ → Option Span
branch_span columns [] range params = Some (record { lo = 0; hi = 0 })
branch_span columns (c ∷ []) true (lo ∷ hi ∷ more) = span_between lo hi
branch_span columns (c ∷ []) false (p ∷ more) = span_between p p
branch_span columns (c ∷ d ∷ cs) range (p ∷ ps) = option_map (raised (p * 2 ^ key_bits columns (d ∷ cs))) (branch_span columns (d ∷ cs) range ps)
branch_span columns _ _ _ = None

-- the same of n branches, each with its own parameters
unfoldable pub branch_spans : List ColumnParts → ℕ → List ℕ → Bool → List ℕ → List (Option Span)
branch_spans columns zero places range params = []
branch_spans columns (suc n) places range params =
    branch_span columns places range (take (branch_params places range) params) ∷ branch_spans columns n places range (drop (branch_params places range) params)

-- the interval, where there is one, holds the number
abbrev pub span_holds : Option Span → ℕ → Bool
span_holds None x = false
span_holds (Some s) x = holds x s
