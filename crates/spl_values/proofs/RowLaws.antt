-- Laws of rows and keys.
use Rattle.std.proofs.Common.{◌≡◌, ℕ, zero, suc, ◌+◌, ◌*◌, ◌^◌, ◌<◌, ◌≤◌, List, [], ◌∷◌, length, take, drop, get_or, All, Some, refl, sym, ap, subst, ◌∙◌, arith, slice_get, IfSome, length-take, drop-cons, add-one}
use Rattle.std.proofs.lemmas.List.{drop_all}
use Rattle.std.proofs.lemmas.List.Elements.{All-head, All-tail}
use Rattle.std.proofs.lemmas.Option.{slice_get-get_or}
use Rattle.std.proofs.Math.Nat.{add-mul, mul_comm, mul_assoc, zero-mul, mul-le-mul_left, pow-le-pow_right}
use Rattle.std.proofs.lemmas.Nat.{pow_pos, pow-add, mul-add-lt}
use Rattle.spl_values.specs.Kinds.{bits_of, Fits}
use Rattle.spl_values.specs.Codes.{code_of}
use Rattle.spl_values.specs.Shapes.{ColumnParts, IsColumn}
use Rattle.spl_values.specs.Tables.{TableParts, IsTable, FitsRow, rows_of_cells, value_at, column_bits, column_code, key_bits, key_of}
use Rattle.spl_values.specs.declared.values.Value.{Value}
use Rattle.spl_values.proofs.CodeLaws.{codes_below}

slice_get-take : (w c : ℕ) (xs : List Value) → c < w → slice_get (take w xs) c ≡ slice_get xs c
slice_get-take zero c xs h = absurd (omega arith)
slice_get-take (suc w) c [] h = refl
slice_get-take (suc w) zero (x ∷ xs) h = refl
slice_get-take (suc w) (suc c) (x ∷ xs) h = slice_get-take w c xs (omega arith)

slice_get-drop : (k i : ℕ) (xs : List Value) → slice_get (drop k xs) i ≡ slice_get xs (k + i)
slice_get-drop zero i xs = let e : 0 + i ≡ i = omega arith in rw e refl
slice_get-drop (suc k) i [] = refl
slice_get-drop (suc k) i (x ∷ xs) = let e : suc k + i ≡ suc (k + i) = omega arith in slice_get-drop k i xs ∙ ap (slice_get (x ∷ xs)) (sym e)

pub length-rows : (w n : ℕ) (cells : List Value) → length (rows_of_cells w n cells) ≡ n
unfolding rows_of_cells
length-rows w zero cells = refl
length-rows w (suc n) cells = ap suc (length-rows w n (drop w cells))

-- a row is no longer than the width
pub row-short : (w n : ℕ) (cells : List Value) (r : ℕ) → length (get_or (rows_of_cells w n cells) r []) ≤ w
unfolding rows_of_cells
row-short w zero cells r = omega arith
row-short w (suc n) cells zero = omega (arith, length-take w cells)
row-short w (suc n) cells (suc r) = row-short w n (drop w cells) r

-- where the value of a row and a place stands
pub value-in : (w n : ℕ) (cells : List Value) (r c : ℕ) → r < n → c < w → value_at (rows_of_cells w n cells) r c ≡ slice_get cells (r * w + c)
unfolding rows_of_cells
value-in w zero cells r c h k = absurd (omega arith)
value-in w (suc n) cells zero c h k =
    let e : 0 * w + c ≡ c = omega (arith, zero-mul w) in
    slice_get-take w c cells k ∙ ap (slice_get cells) (sym e)
value-in w (suc n) cells (suc r) c h k =
    let inner = value-in w n (drop w cells) r c (omega arith) k in
    let e : w + (r * w + c) ≡ suc r * w + c = let split : (r + 1) * w ≡ r * w + 1 * w = add-mul r 1 w in omega (arith, split) in
    inner ∙ slice_get-drop w (r * w + c) cells ∙ ap (slice_get cells) e

-- a row has as many values as there are columns
pub row-length : (cs : List ColumnParts) (vs : List Value) → FitsRow cs vs → length vs ≡ length cs
row-length [] [] h = refl
row-length [] (v ∷ vs) h = absurd h
row-length (c ∷ cs) [] h = absurd h
row-length (c ∷ cs) (v ∷ vs) h = ap suc (row-length cs vs h.1)

-- each value of a row fits its column
pub row-fits : (cs : List ColumnParts) (vs : List Value) (i : ℕ) (v : Value) → FitsRow cs vs → slice_get vs i ≡ Some v → IfSome (slice_get cs i) (λ c. Fits c.kind v)
row-fits [] [] i v h e = tt
row-fits [] (w ∷ vs) i v h e = absurd h
row-fits (c ∷ cs) [] i v h e = absurd h
row-fits (c ∷ cs) (w ∷ vs) zero v h e = let same : w ≡ v = cc in subst (λ (x : Value). Fits c.kind x) same h.0
row-fits (c ∷ cs) (w ∷ vs) (suc i) v h e = row-fits cs vs i v h.1 e

-- the code and the bits of a column of a row
pub column_code-at : (cs : List ColumnParts) (vs : List Value) (i : ℕ) (c : ColumnParts) (v : Value) → slice_get cs i ≡ Some c → slice_get vs i ≡ Some v → column_code cs vs i ≡ code_of c.kind v
unfolding column_code
column_code-at [] vs i c v e f = absurd cc
column_code-at (d ∷ cs) [] i c v e f = absurd cc
column_code-at (d ∷ cs) (w ∷ vs) zero c v e f = let one : d ≡ c = cc in let two : w ≡ v = cc in rw (one, two) refl
column_code-at (d ∷ cs) (w ∷ vs) (suc i) c v e f = column_code-at cs vs i c v e f

pub column_bits-at : (cs : List ColumnParts) (i : ℕ) (c : ColumnParts) → slice_get cs i ≡ Some c → column_bits cs i ≡ bits_of c.kind
unfolding column_bits
column_bits-at [] i c e = absurd cc
column_bits-at (d ∷ cs) zero c e = let one : d ≡ c = cc in rw one refl
column_bits-at (d ∷ cs) (suc i) c e = column_bits-at cs i c e

code-fits : (cs : List ColumnParts) (vs : List Value) (i : ℕ) → All IsColumn cs → FitsRow cs vs → column_code cs vs i < 2 ^ column_bits cs i
unfolding column_bits column_code
code-fits [] vs i typed h = omega arith
code-fits (c ∷ cs) [] i typed h = absurd h
code-fits (c ∷ cs) (v ∷ vs) zero typed h = codes_below c.kind v (All-head IsColumn c cs typed).typed h.0
code-fits (c ∷ cs) (v ∷ vs) (suc i) typed h = code-fits cs vs i (All-tail IsColumn c cs typed) h.1

pub key_bits-cons : (cs : List ColumnParts) (i : ℕ) (is : List ℕ) → key_bits cs (i ∷ is) ≡ column_bits cs i + key_bits cs is
unfolding key_bits
key_bits-cons cs i is = refl

pub key_of-cons : (cs : List ColumnParts) (vs : List Value) (i : ℕ) (is : List ℕ) → key_of cs vs (i ∷ is) ≡ column_code cs vs i * 2 ^ key_bits cs is + key_of cs vs is
unfolding key_of
key_of-cons cs vs i is = refl

pub key_of-nil : (cs : List ColumnParts) (vs : List Value) → key_of cs vs [] ≡ 0
unfolding key_of
key_of-nil cs vs = refl

pub key_bits-nil : (cs : List ColumnParts) → key_bits cs [] ≡ 0
unfolding key_bits
key_bits-nil cs = refl

-- a key has no more than its bits
pub keys_below : (cs : List ColumnParts) (vs : List Value) (is : List ℕ) → All IsColumn cs → FitsRow cs vs → key_of cs vs is < 2 ^ key_bits cs is
unfolding key_bits key_of
keys_below cs vs [] typed h = omega arith
keys_below cs vs (i ∷ is) typed h =
    let tail = keys_below cs vs is typed h in
    let head = code-fits cs vs i typed h in
    let bound = mul-add-lt (column_code cs vs i) (2 ^ key_bits cs is) (key_of cs vs is) (2 ^ column_bits cs i) head tail in
    let power : 2 ^ (column_bits cs i + key_bits cs is) ≡ 2 ^ column_bits cs i * 2 ^ key_bits cs is = pow-add 2 (column_bits cs i) (key_bits cs is) in
    rw power (rw (mul_comm (2 ^ key_bits cs is) (2 ^ column_bits cs i)) at bound)

-- where a value of a row stands among all values
pub record InRows (w n : ℕ) (cells : List Value) (r c : ℕ) : Type 0 where
  pub row : r < n
  pub place : c < w
  pub within : r * w + c < length cells

pub in_rows : (w n : ℕ) (cells : List Value) (rows : List (List Value)) (r c : ℕ) → rows_of_cells w n cells ≡ rows → length cells ≡ n * w
    → r < length rows → c < length (get_or rows r []) → InRows w n cells r c
in_rows w n cells rows r c e len h k =
    let count : length rows ≡ n = ap length (sym e) ∙ length-rows w n cells in
    let row : r < n = omega (arith, count) in
    let short : length (get_or rows r []) ≤ w = rw (← e) (row-short w n cells r) in
    let place : c < w = omega (arith, short) in
    let bound : r * w + c < w * n = mul-add-lt r w c n row place in
    record { row = row; place = place; within = rw (len, mul_comm n w) bound }

-- the parts of a table's row
pub record RowParts (cs : List ColumnParts) (rows : List (List Value)) (r c : ℕ) : Type 0 where
  pub row : r < length rows
  pub place : c < length (get_or rows r [])
  pub whole : slice_get rows r ≡ Some (get_or rows r [])
  pub fits : FitsRow cs (get_or rows r [])

pub row_parts : (cs : List ColumnParts) (rows : List (List Value)) (n r c : ℕ) → length rows ≡ n → All (FitsRow cs) rows → r < n → c < length cs → RowParts cs rows r c
row_parts cs rows n r c len fits h k =
    let row : r < length rows = omega (arith, len) in
    let here : FitsRow cs (get_or rows r []) = fits r [] row in
    record { row = row; place = omega (arith, row-length cs (get_or rows r []) here); whole = slice_get-get_or rows r [] row; fits = here }

-- a value of a row fits its column
pub value_fits : (cs : List ColumnParts) (rows : List (List Value)) (r c : ℕ) (v : Value) → RowParts cs rows r c → value_at rows r c ≡ Some v → IfSome (slice_get cs c) (λ d. Fits d.kind v)
value_fits cs rows r c v p e = row-fits cs (get_or rows r []) c v p.fits (rw p.whole at e)

-- one more code behind a key
pub record KeyStep (key b code whole B R : ℕ) : Type 0 where
  pub next : whole ≡ (key * 2 ^ b + code) * 2 ^ B + R
  pub fits : key * 2 ^ b + code < 2 ^ 128

pub key_step : (key b code whole B R : ℕ) → whole < 2 ^ 128 → whole ≡ key * 2 ^ (b + B) + (code * 2 ^ B + R) → KeyStep key b code whole B R
key_step key b code whole B R small e =
    let power : 2 ^ (b + B) ≡ 2 ^ b * 2 ^ B = pow-add 2 b B in
    let spread : key * (2 ^ b * 2 ^ B) ≡ key * 2 ^ b * 2 ^ B = sym (mul_assoc key (2 ^ b) (2 ^ B)) in
    let sum : (key * 2 ^ b + code) * 2 ^ B ≡ key * 2 ^ b * 2 ^ B + code * 2 ^ B = add-mul (key * 2 ^ b) code (2 ^ B) in
    let whole_is : whole ≡ key * 2 ^ b * 2 ^ B + (code * 2 ^ B + R) = e ∙ ap (λ x. key * x + (code * 2 ^ B + R)) power ∙ ap (λ x. x + (code * 2 ^ B + R)) spread in
    let least : (key * 2 ^ b + code) * 1 ≤ (key * 2 ^ b + code) * 2 ^ B = mul-le-mul_left (key * 2 ^ b + code) (pow_pos B) in
    record { next = omega (arith, whole_is, sum); fits = omega (arith, whole_is, sum, least) }

-- a key is below the power of two that bounds its bits
pub key_small : (cs : List ColumnParts) (vs : List Value) (is : List ℕ) → All IsColumn cs → FitsRow cs vs → key_bits cs is ≤ 128 → key_of cs vs is < 2 ^ 128
key_small cs vs is typed h few =
    let below = keys_below cs vs is typed h in
    let more : 2 ^ key_bits cs is ≤ 2 ^ 128 = pow-le-pow_right (pow_pos 1) few in
    omega (arith, below, more)

-- one more column of a key
pub join_step : (t : TableParts) (numbers : List ℕ) (i row key : ℕ) (column : ColumnParts) (v : Value) → IsTable t → row < t.shape.rows → i < length numbers
    → get_or numbers i 0 < length t.shape.schema.columns → slice_get t.shape.schema.columns (get_or numbers i 0) ≡ Some column → value_at t.rows row (get_or numbers i 0) ≡ Some v
    → key_bits t.shape.schema.columns numbers ≤ 128
    → key_of t.shape.schema.columns (get_or t.rows row []) numbers ≡ key * 2 ^ key_bits t.shape.schema.columns (drop i numbers) + key_of t.shape.schema.columns (get_or t.rows row []) (drop i numbers)
    → KeyStep key (bits_of column.kind) (code_of column.kind v) (key_of t.shape.schema.columns (get_or t.rows row []) numbers)
    (key_bits t.shape.schema.columns (drop (i + 1) numbers)) (key_of t.shape.schema.columns (get_or t.rows row []) (drop (i + 1) numbers))
join_step t numbers i row key column v table in_row in_numbers in_columns column_is value_is few whole =
    let n : ℕ = get_or numbers i 0 in
    let parts = row_parts t.shape.schema.columns t.rows t.shape.rows row n table.count table.rows in_row in_columns in
    let in_it : slice_get (get_or t.rows row []) n ≡ Some v = rw parts.whole at value_is in
    let rest : drop i numbers ≡ n ∷ drop (i + 1) numbers = rw add-one (drop-cons numbers i 0 in_numbers) in
    let bits = key_bits-cons t.shape.schema.columns n (drop (i + 1) numbers) ∙ ap (λ x. x + key_bits t.shape.schema.columns (drop (i + 1) numbers)) (column_bits-at t.shape.schema.columns n column column_is) in
    let code = key_of-cons t.shape.schema.columns (get_or t.rows row []) n (drop (i + 1) numbers)
    ∙ ap (λ x. x * 2 ^ key_bits t.shape.schema.columns (drop (i + 1) numbers) + key_of t.shape.schema.columns (get_or t.rows row []) (drop (i + 1) numbers)) (column_code-at t.shape.schema.columns (get_or t.rows row []) n column v column_is in_it) in
    let small = key_small t.shape.schema.columns (get_or t.rows row []) numbers table.shape.schema.columns parts.fits few in
    key_step key (bits_of column.kind) (code_of column.kind v) (key_of t.shape.schema.columns (get_or t.rows row []) numbers) (key_bits t.shape.schema.columns (drop (i + 1) numbers)) (key_of t.shape.schema.columns (get_or t.rows row []) (drop (i + 1) numbers)) small
    (rw (rest, bits, code) at whole)

-- the key, once no column is left
pub join_end : (t : TableParts) (numbers : List ℕ) (i row key : ℕ) → length numbers ≤ i
    → key_of t.shape.schema.columns (get_or t.rows row []) numbers ≡ key * 2 ^ key_bits t.shape.schema.columns (drop i numbers) + key_of t.shape.schema.columns (get_or t.rows row []) (drop i numbers)
    → key ≡ key_of t.shape.schema.columns (get_or t.rows row []) numbers
join_end t numbers i row key over whole =
    let rest : drop i numbers ≡ [] = drop_all i numbers over in
    let at_end = rw (rest, key_bits-nil t.shape.schema.columns, key_of-nil t.shape.schema.columns (get_or t.rows row [])) at whole in
    omega (arith, at_end)
