-- The interval of a branch, from its last column to its first.
use Rattle.std.proofs.Common.{◌≡◌, ℕ, zero, suc, ◌+◌, ◌-◌, ◌*◌, ◌^◌, ◌<◌, ◌≤◌, Bool, true, false, List, [], ◌∷◌, length, drop, get_or, Option, Some, None, option_map, refl, arith, IfSome}
use Rattle.std.specs.List.{AllZip}
use Rattle.std.proofs.Math.Nat.{pow-le-pow_right}
use Rattle.std.proofs.lemmas.Nat.{pow-add, mul-add-lt}
use Rattle.spl_values.specs.Shapes.{ColumnParts}
use Rattle.spl_values.specs.Tables.{column_bits, key_bits}
use Rattle.interval_keys.specs.Intervals.{Span}
use Rattle.query_reader.specs.Params.{HasBits, branch_columns}
use Rattle.private_plan.specs.Branches.{raised, span_between, branch_span}
use Rattle.private_plan.proofs.Spans.{span_fits}

-- the parameters of the columns from the i-th on
pub behind_column : (columns : List ColumnParts) (places : List ℕ) (range : Bool) (params : List ℕ) (i : ℕ) → i < length places
    → AllZip (HasBits columns) (branch_columns places range) params → AllZip (HasBits columns) (branch_columns (drop i places) range) (drop i params)
behind_column columns [] range params i h z = absurd (omega arith)
behind_column columns (c ∷ cs) range params zero h z = z
behind_column columns (c ∷ []) range params (suc i) h z = absurd (omega arith)
behind_column columns (c ∷ d ∷ cs) range [] (suc i) h z = absurd z
behind_column columns (c ∷ d ∷ cs) range (p ∷ ps) (suc i) h z = behind_column columns (d ∷ cs) range ps i (omega (arith, h)) z.1

-- there is a parameter for each column, and it has room in it
pub has_param : (columns : List ColumnParts) (places : List ℕ) (range : Bool) (params : List ℕ) (i : ℕ) → i < length places
    → AllZip (HasBits columns) (branch_columns places range) params → (i < length params) × (get_or params i 0 < 2 ^ column_bits columns (get_or places i 0))
has_param columns [] range params i h z = absurd (omega arith)
has_param columns (c ∷ []) true [] i h z = absurd z
has_param columns (c ∷ []) true (lo ∷ ps) zero h z = (omega arith, z.0)
has_param columns (c ∷ []) true (lo ∷ ps) (suc i) h z = absurd (omega arith)
has_param columns (c ∷ []) false [] i h z = absurd z
has_param columns (c ∷ []) false (p ∷ ps) zero h z = (omega arith, z.0)
has_param columns (c ∷ []) false (p ∷ ps) (suc i) h z = absurd (omega arith)
has_param columns (c ∷ d ∷ cs) range [] i h z = absurd z
has_param columns (c ∷ d ∷ cs) range (p ∷ ps) zero h z = (omega arith, z.0)
has_param columns (c ∷ d ∷ cs) range (p ∷ ps) (suc i) h z =
    let more = has_param columns (d ∷ cs) range ps i (omega (arith, h)) z.1 in
    (let low = more.0 in omega (arith, low), more.1)

some_params : (columns : List ColumnParts) (d : ℕ) (cs : List ℕ) (range : Bool) → AllZip (HasBits columns) (branch_columns (d ∷ cs) range) [] → ⊥
some_params columns d [] true z = z
some_params columns d [] false z = z
some_params columns d (e ∷ cs) range z = z

-- the last column's interval is between its first parameter and the last of all
pub from_last : (columns : List ColumnParts) (places : List ℕ) (range : Bool) (params : List ℕ) → 1 ≤ length places
    → AllZip (HasBits columns) (branch_columns places range) params
    → span_between (get_or params (length places - 1) 0) (get_or params (length params - 1) 0) ≡ branch_span columns (drop (length places - 1) places) range (drop (length places - 1) params)
unfolding branch_span
from_last columns [] range params some z = absurd (omega (arith, some))
from_last columns (c ∷ []) true [] some z = absurd z
from_last columns (c ∷ []) true (lo ∷ []) some z = absurd z.1
from_last columns (c ∷ []) true (lo ∷ hi ∷ []) some z = refl
from_last columns (c ∷ []) true (lo ∷ hi ∷ x ∷ xs) some z = absurd z.1.1
from_last columns (c ∷ []) false [] some z = absurd z
from_last columns (c ∷ []) false (p ∷ []) some z = refl
from_last columns (c ∷ []) false (p ∷ x ∷ xs) some z = absurd z.1
from_last columns (c ∷ d ∷ cs) range [] some z = absurd z
from_last columns (c ∷ d ∷ cs) range (p ∷ []) some z = absurd (some_params columns d cs range z.1)
from_last columns (c ∷ d ∷ cs) range (p ∷ q ∷ ps) some z =
    let more = from_last columns (d ∷ cs) range (q ∷ ps) (omega arith) z.1 in
    let a : length (c ∷ d ∷ cs) - 1 ≡ suc (length (d ∷ cs) - 1) = omega arith in
    let b : length (p ∷ q ∷ ps) - 1 ≡ suc (length (q ∷ ps) - 1) = omega arith in
    rw (a, b) more

-- a column before the interval of those behind it
pub before : (columns : List ColumnParts) (places : List ℕ) (range : Bool) (params : List ℕ) (i : ℕ) → suc i < length places → i < length params
    → option_map (raised (get_or params i 0 * 2 ^ key_bits columns (drop (suc i) places))) (branch_span columns (drop (suc i) places) range (drop (suc i) params)) ≡ branch_span columns (drop i places) range (drop i params)
unfolding branch_span
before columns [] range params i h k = absurd (omega (arith, h))
before columns (c ∷ []) range params i h k = absurd (omega (arith, h))
before columns (c ∷ d ∷ cs) range [] i h k = absurd (omega (arith, k))
before columns (c ∷ d ∷ cs) range (p ∷ ps) zero h k = refl
before columns (c ∷ d ∷ cs) range (p ∷ ps) (suc i) h k = before columns (d ∷ cs) range ps i (omega (arith, h)) (omega (arith, k))

pub bits_before : (columns : List ColumnParts) (places : List ℕ) (i : ℕ) → i < length places → key_bits columns (drop i places) ≡ key_bits columns (drop (suc i) places) + column_bits columns (get_or places i 0)
unfolding key_bits
bits_before columns [] i h = absurd (omega (arith, h))
bits_before columns (c ∷ cs) zero h = omega arith
bits_before columns (c ∷ cs) (suc i) h = bits_before columns cs i (omega (arith, h))

pub fewer_bits : (columns : List ColumnParts) (places : List ℕ) (i : ℕ) → key_bits columns (drop i places) ≤ key_bits columns places
unfolding key_bits
fewer_bits columns [] zero = omega arith
fewer_bits columns [] (suc i) = omega arith
fewer_bits columns (c ∷ cs) zero = omega arith
fewer_bits columns (c ∷ cs) (suc i) = let more = fewer_bits columns cs i in omega (arith, more)

-- a code before a number of the bits behind it has no more than the bits of both
pub fits_before : (columns : List ColumnParts) (places : List ℕ) (range : Bool) (params : List ℕ) (i : ℕ) → suc i < length places → key_bits columns places ≤ 128
    → AllZip (HasBits columns) (branch_columns places range) params
    → IfSome (branch_span columns (drop (suc i) places) range (drop (suc i) params)) (λ s. get_or params i 0 * 2 ^ key_bits columns (drop (suc i) places) + s.hi < 2 ^ 128)
fits_before columns places range params i h narrow z =
    let here : i < length places = omega (arith, h) in
    let low = (has_param columns places range params i here z).1 in
    let bits = bits_before columns places i here in
    let all : key_bits columns (drop i places) ≤ 128 = let fewer = fewer_bits columns places i in omega (arith, fewer, narrow) in
    within (branch_span columns (drop (suc i) places) range (drop (suc i) params)) low (rw (← bits) (pow-le-pow_right (omega arith) all)) (span_fits columns (drop (suc i) places) range (drop (suc i) params) (behind_column columns places range params (suc i) h z)) where
      within : (s : Option Span) → get_or params i 0 < 2 ^ column_bits columns (get_or places i 0)
          → 2 ^ (key_bits columns (drop (suc i) places) + column_bits columns (get_or places i 0)) ≤ 2 ^ 128
          → IfSome s (λ t. (t.lo ≤ t.hi) × (t.hi < 2 ^ key_bits columns (drop (suc i) places)))
          → IfSome s (λ t. get_or params i 0 * 2 ^ key_bits columns (drop (suc i) places) + t.hi < 2 ^ 128)
      within None low all ends = tt
      within (Some t) low all ends =
          let wide = mul-add-lt (get_or params i 0) (2 ^ key_bits columns (drop (suc i) places)) t.hi (2 ^ column_bits columns (get_or places i 0)) low ends.1 in
          let split : 2 ^ (key_bits columns (drop (suc i) places) + column_bits columns (get_or places i 0)) ≡ 2 ^ key_bits columns (drop (suc i) places) * 2 ^ column_bits columns (get_or places i 0) = pow-add 2 (key_bits columns (drop (suc i) places)) (column_bits columns (get_or places i 0)) in
          omega (arith, wide, split, all)

-- the last column alone
pub last_bits_alone : (columns : List ColumnParts) (places : List ℕ) → 1 ≤ length places → key_bits columns (drop (length places - 1) places) ≡ column_bits columns (get_or places (length places - 1) 0)
unfolding key_bits
last_bits_alone columns [] some = absurd (omega (arith, some))
last_bits_alone columns (c ∷ []) some = omega arith
last_bits_alone columns (c ∷ d ∷ cs) some =
    let more = last_bits_alone columns (d ∷ cs) (omega arith) in
    let a : length (c ∷ d ∷ cs) - 1 ≡ suc (length (d ∷ cs) - 1) = omega arith in
    rw a more
