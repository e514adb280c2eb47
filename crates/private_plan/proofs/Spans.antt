-- The interval of a branch holds a row's joined key exactly where the branch holds of the row.
use Rattle.std.proofs.Common.{◌≡◌, ℕ, zero, suc, ◌+◌, ◌*◌, ◌^◌, ◌<◌, ◌≤◌, Bool, true, false, ◌&&◌, ◌||◌, nat_le, eqb, List, [], ◌∷◌, ◌++◌, length, map, take, drop, Option, Some, None, option_map, refl, sym, ap, ◌∙◌, arith, IfSome, if◌then◌else◌}
use Rattle.std.specs.List.{AllByRecursion, AllZip}
use Rattle.std.proofs.lemmas.Bool.Decides.{nat_tests}
use Rattle.std.proofs.lemmas.Slice.Zip.{AllZip-long}
use Rattle.std.proofs.lemmas.List.{length-append}
use Rattle.std.proofs.lemmas.Nat.{pow_pos, pow-add, mul-add-lt}
use Rattle.std.proofs.Math.Nat.{add-mul, mul_comm, mul-le-mul_right}
use Rattle.spl_values.specs.Shapes.{ColumnParts}
use Rattle.spl_values.specs.Tables.{column_bits, key_bits}
use Rattle.interval_keys.specs.Intervals.{Span}
use Rattle.interval_keys.specs.Slots.{allowed, held}
use Rattle.cell_merge.specs.Rows.{Row, code}
use Rattle.query_reader.specs.Matching.{branch_holds, branch_params, is_between, some_branch_holds}
use Rattle.query_reader.specs.Params.{HasBits, branch_columns, times}
use Rattle.private_plan.specs.Branches.{RowHasBits, joined, row_key, raised, branch_span, branch_spans, span_holds}

-- codes that their columns have room for make a number that the key has room for
pub joined_below : (columns : List ColumnParts) (places codes : List ℕ) → AllZip (HasBits columns) places codes → joined columns places codes < 2 ^ key_bits columns places
unfolding joined key_bits
joined_below columns [] [] h = omega arith
joined_below columns [] (p ∷ ps) h = absurd h
joined_below columns (i ∷ is) [] h = absurd h
joined_below columns (i ∷ is) (p ∷ ps) h =
    let step = mul-add-lt p (2 ^ key_bits columns is) (joined columns is ps) (2 ^ column_bits columns i) h.0 (joined_below columns is ps h.1) in
    let wide : 2 ^ (column_bits columns i + key_bits columns is) ≡ 2 ^ column_bits columns i * 2 ^ key_bits columns is = pow-add 2 (column_bits columns i) (key_bits columns is) in
    let turned = mul_comm (2 ^ column_bits columns i) (2 ^ key_bits columns is) in
    rw (wide, turned) step

row_codes : (columns : List ColumnParts) (places : List ℕ) (r : Row) → RowHasBits columns places r → AllZip (HasBits columns) places (map (λ i. code i r) places)
row_codes columns [] r h = tt
row_codes columns (i ∷ is) r h = (h.0, row_codes columns is r h.1)

pub row_key_below : (columns : List ColumnParts) (places : List ℕ) (r : Row) → RowHasBits columns places r → row_key columns places r < 2 ^ key_bits columns places
row_key_below columns places r h = joined_below columns places (map (λ i. code i r) places) (row_codes columns places r h)

-- a number of two digits lies between two others that begin with one digit exactly where it begins with that and its second digit lies between theirs
pub digit_between : (w p c lo hi k : ℕ) → lo < w → hi < w → k < w → (nat_le (p * w + lo) (c * w + k) && nat_le (c * w + k) (p * w + hi)) ≡ (eqb c p && (nat_le lo k && nat_le k hi))
digit_between w p c lo hi k a b d =
    let up : c < p → (c + 1) * w ≤ p * w = λ l. mul-le-mul_right w (omega (arith, l)) in
    let down : p < c → (p + 1) * w ≤ c * w = λ l. mul-le-mul_right w (omega (arith, l)) in
    let one : (c + 1) * w ≡ c * w + 1 * w = add-mul c 1 w in
    let two : (p + 1) * w ≡ p * w + 1 * w = add-mul p 1 w in
    grind (arith, nat_tests, up, down, one, two)

and-false : (b : Bool) → (b && false) ≡ false
and-false true = refl
and-false false = refl

-- one number lies between two that are equal exactly where it is that number
same_between : (p c : ℕ) → eqb c p ≡ (nat_le p c && nat_le c p)
same_between p c = grind (arith, nat_tests)

-- no number lies between two that are crossed
between_holds : (lo hi c : ℕ) (b : Bool) → nat_le lo hi ≡ b → is_between lo hi c ≡ span_holds (if b then Some (record { lo = lo; hi = hi }) else None) c
between_holds lo hi c true e = refl
between_holds lo hi c false e = grind (arith, nat_tests, e)

unit : (n : ℕ) → n * 1 + 0 ≡ n
unit n = omega arith

-- a digit before the ends of an interval and before a number
behind : (w p c k : ℕ) (s : Option Span) (b : Bool) → k < w → IfSome s (λ t. (t.lo ≤ t.hi) × (t.hi < w)) → b ≡ span_holds s k → (eqb c p && b) ≡ span_holds (option_map (raised (p * w)) s) (c * w + k)
behind w p c k None b low ends e = rw e (and-false (eqb c p))
behind w p c k (Some s) b low ends e = rw e (sym (digit_between w p c s.lo s.hi k (omega (arith, ends.0, ends.1)) ends.1 low))

between_below : (lo hi n : ℕ) (b : Bool) → nat_le lo hi ≡ b → hi < n → IfSome {T = Span} (if b then Some (record { lo = lo; hi = hi }) else None) (λ t. (t.lo ≤ t.hi) × (t.hi < n))
between_below lo hi n true e h = (grind (arith, nat_tests, e), h)
between_below lo hi n false e h = tt

raised_below : (w p h : ℕ) (s : Option Span) → p < h → IfSome s (λ t. (t.lo ≤ t.hi) × (t.hi < w)) → IfSome (option_map (raised (p * w)) s) (λ t. (t.lo ≤ t.hi) × (t.hi < w * h))
raised_below w p h None low ends = tt
raised_below w p h (Some s) low ends = (omega (arith, ends.0), mul-add-lt p w s.hi h low ends.1)

wider : (columns : List ColumnParts) (c : ℕ) (cs : List ℕ) → 2 ^ key_bits columns cs * 2 ^ column_bits columns c ≡ 2 ^ key_bits columns (c ∷ cs)
unfolding key_bits
wider columns c cs = mul_comm (2 ^ key_bits columns cs) (2 ^ column_bits columns c) ∙ sym (pow-add 2 (column_bits columns c) (key_bits columns cs))

alone : (columns : List ColumnParts) (c : ℕ) → 2 ^ column_bits columns c ≡ 2 ^ key_bits columns (c ∷ [])
unfolding key_bits
alone columns c = let e : column_bits columns c + 0 ≡ column_bits columns c = omega arith in rw e refl

-- the interval of a branch ends below what the key has room for, and isn't crossed
pub span_fits : (columns : List ColumnParts) (places : List ℕ) (range : Bool) (params : List ℕ)
    → AllZip (HasBits columns) (branch_columns places range) params
    → IfSome (branch_span columns places range params) (λ t. (t.lo ≤ t.hi) × (t.hi < 2 ^ key_bits columns places))
unfolding branch_span
span_fits columns [] range params z = (omega arith, pow_pos (key_bits columns []))
span_fits columns (c ∷ []) true [] z = absurd z
span_fits columns (c ∷ []) true (lo ∷ []) z = absurd z.1
span_fits columns (c ∷ []) true (lo ∷ hi ∷ more) z = between_below lo hi (2 ^ key_bits columns (c ∷ [])) (nat_le lo hi) refl (rw (← alone columns c) z.1.0)
span_fits columns (c ∷ []) false [] z = absurd z
span_fits columns (c ∷ []) false (p ∷ more) z = between_below p p (2 ^ key_bits columns (c ∷ [])) (nat_le p p) refl (rw (← alone columns c) z.0)
span_fits columns (c ∷ d ∷ cs) range [] z = absurd z
span_fits columns (c ∷ d ∷ cs) range (p ∷ ps) z =
    rw (← wider columns c (d ∷ cs)) (raised_below (2 ^ key_bits columns (d ∷ cs)) p (2 ^ column_bits columns c) (branch_span columns (d ∷ cs) range ps) z.0 (span_fits columns (d ∷ cs) range ps z.1))

pub holds_where : (columns : List ColumnParts) (places : List ℕ) (range : Bool) (params : List ℕ) (r : Row)
    → RowHasBits columns places r → AllZip (HasBits columns) (branch_columns places range) params
    → branch_holds places range params r ≡ span_holds (branch_span columns places range params) (row_key columns places r)
unfolding branch_holds branch_span joined key_bits
holds_where columns [] range params r h z = refl
holds_where columns (c ∷ []) true [] r h z = absurd z
holds_where columns (c ∷ []) true (lo ∷ []) r h z = absurd z.1
holds_where columns (c ∷ []) true (lo ∷ hi ∷ more) r h z = rw (unit (code c r)) (between_holds lo hi (code c r) (nat_le lo hi) refl)
holds_where columns (c ∷ []) false [] r h z = absurd z
holds_where columns (c ∷ []) false (p ∷ more) r h z = rw (unit (code c r)) (same_between p (code c r) ∙ between_holds p p (code c r) (nat_le p p) refl)
holds_where columns (c ∷ d ∷ cs) range [] r h z = absurd z
holds_where columns (c ∷ d ∷ cs) range (p ∷ ps) r h z =
    behind (2 ^ key_bits columns (d ∷ cs)) p (code c r) (row_key columns (d ∷ cs) r) (branch_span columns (d ∷ cs) range ps) (branch_holds (d ∷ cs) range ps r)
    (row_key_below columns (d ∷ cs) r h.1) (span_fits columns (d ∷ cs) range ps z.1) (holds_where columns (d ∷ cs) range ps r h.1 z.1)

length-columns : (places : List ℕ) (range : Bool) → 1 ≤ length places → length (branch_columns places range) ≡ branch_params places range
length-columns [] range some = absurd (omega (arith, some))
length-columns (c ∷ []) true some = refl
length-columns (c ∷ []) false some = refl
length-columns (c ∷ d ∷ cs) range some =
    let e : branch_params (c ∷ d ∷ cs) range ≡ suc (branch_params (d ∷ cs) range) = omega arith in
    ap suc (length-columns (d ∷ cs) range (omega arith)) ∙ sym e

columns_most : (places : List ℕ) (range : Bool) → length places ≤ branch_params places range
columns_most places true = omega arith
columns_most places false = omega arith

zip_front : (R : ℕ → ℕ → Type 0) (xs ys ps : List ℕ) → AllZip R (xs ++ ys) ps → AllZip R xs (take (length xs) ps)
zip_front R [] ys ps z = tt
zip_front R (x ∷ xs) ys [] z = absurd z
zip_front R (x ∷ xs) ys (p ∷ ps) z = (z.0, zip_front R xs ys ps z.1)

zip_back : (R : ℕ → ℕ → Type 0) (xs ys ps : List ℕ) → AllZip R (xs ++ ys) ps → AllZip R ys (drop (length xs) ps)
zip_back R [] ys ps z = z
zip_back R (x ∷ xs) ys [] z = absurd z
zip_back R (x ∷ xs) ys (p ∷ ps) z = zip_back R xs ys ps z.1

allowed_step : (s : Option Span) (l : List (Option Span)) (x : ℕ) → held (allowed (s ∷ l)) x ≡ (span_holds s x || held (allowed l) x)
unfolding allowed
allowed_step None l x = refl
allowed_step (Some s) l x = refl

module _ (columns : List ColumnParts) (places : List ℕ) (range : Bool) (some : 1 ≤ length places) where
  pub front : (n : ℕ) (params : List ℕ) → AllZip (HasBits columns) (times (suc n) (branch_columns places range)) params → AllZip (HasBits columns) (branch_columns places range) (take (branch_params places range) params)
  front n params z = rw (← length-columns places range some) (zip_front (HasBits columns) (branch_columns places range) (times n (branch_columns places range)) params z)

  pub back : (n : ℕ) (params : List ℕ) → AllZip (HasBits columns) (times (suc n) (branch_columns places range)) params → AllZip (HasBits columns) (times n (branch_columns places range)) (drop (branch_params places range) params)
  back n params z = rw (← length-columns places range some) (zip_back (HasBits columns) (branch_columns places range) (times n (branch_columns places range)) params z)

  -- the parameters of n branches are enough for the first
  pub own_params : (n : ℕ) (params : List ℕ) → AllZip (HasBits columns) (times (suc n) (branch_columns places range)) params → (branch_params places range ≤ length params) × (length places ≤ length (take (branch_params places range) params))
  own_params n params z =
      let all = AllZip-long (HasBits columns) (branch_columns places range ++ times n (branch_columns places range)) params z in
      let both : length (branch_columns places range ++ times n (branch_columns places range)) ≡ length (branch_columns places range) + length (times n (branch_columns places range)) = length-append (branch_columns places range) (times n (branch_columns places range)) in
      let own = AllZip-long (HasBits columns) (branch_columns places range) (take (branch_params places range) params) (front n params z) in
      let each = length-columns places range some in
      let most = columns_most places range in
      (omega (arith, all, both, each), omega (arith, own, each, most))

  -- the intervals of branches hold a row's joined key exactly where some branch holds of the row
  pub held_where : (n : ℕ) (params : List ℕ) (r : Row) → RowHasBits columns places r → AllZip (HasBits columns) (times n (branch_columns places range)) params
      → some_branch_holds n places range params r ≡ held (allowed (branch_spans columns n places range params)) (row_key columns places r)
  unfolding some_branch_holds branch_spans allowed
  held_where zero params r h z = refl
  held_where (suc n) params r h z =
      let one = holds_where columns places range (take (branch_params places range) params) r h (front n params z) in
      let more = held_where n (drop (branch_params places range) params) r h (back n params z) in
      rw (one, more) (sym (allowed_step (branch_span columns places range (take (branch_params places range) params)) (branch_spans columns n places range (drop (branch_params places range) params)) (row_key columns places r)))

  -- they fit the key's bits
  pub spans_fit : (n : ℕ) (params : List ℕ) → AllZip (HasBits columns) (times n (branch_columns places range)) params
      → AllByRecursion (λ s. IfSome s (λ t. (t.lo ≤ t.hi) × (t.hi < 2 ^ key_bits columns places))) (branch_spans columns n places range params)
  unfolding branch_spans
  spans_fit zero params z = tt
  spans_fit (suc n) params z =
      (span_fits columns places range (take (branch_params places range) params) (front n params z), spans_fit n (drop (branch_params places range) params) (back n params z))
