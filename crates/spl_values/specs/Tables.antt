-- Tables and joined keys.
use Rattle.std.specs.Prelude.{◌≡◌, ℕ, ◌+◌, ◌*◌, ◌^◌, zero, suc, List, [], ◌∷◌, length, take, drop, All, Option, slice_get, option_and_then}
use Rattle.std.specs.List.{AllZip}
use Rattle.spl_values.specs.Kinds.{Fits, bits_of}
use Rattle.spl_values.specs.Codes.{code_of}
use Rattle.spl_values.specs.Shapes.{ColumnParts, ShapeParts, IsShape}
use Rattle.spl_values.specs.declared.values.Value.{Value}

-- a table: its shape and its rows
pub record TableParts : Type 0 where
  pub shape : ShapeParts
  pub rows : List (List Value)

-- a row: one value for each column, which fits it
abbrev pub FitsRow : List ColumnParts → List Value → Type 0
FitsRow columns row = AllZip (λ c v. Fits c.kind v) columns row

-- what a table keeps: as many rows as its shape says, each fitting the columns
pub record IsTable (t : TableParts) : Type 0 where
  pub shape : IsShape t.shape
  pub count : length t.rows ≡ t.shape.rows
  pub rows : All (FitsRow t.shape.schema.columns) t.rows

-- values that stand one after another, as so many rows of that width
unfoldable pub rows_of_cells : ℕ → ℕ → List Value → List (List Value)
rows_of_cells width zero cells = []
rows_of_cells width (suc count) cells = take width cells ∷ rows_of_cells width count (drop width cells)

-- the value in that row and column
abbrev pub value_at : List (List Value) → ℕ → ℕ → Option Value
value_at rows row column = option_and_then (λ values. slice_get values column) (slice_get rows row)

-- the bits of the column of that number
unfoldable pub column_bits : List ColumnParts → ℕ → ℕ
column_bits [] i = 0
column_bits (c ∷ cs) zero = bits_of c.kind
column_bits (c ∷ cs) (suc i) = column_bits cs i

-- the code in the column of that number
unfoldable pub column_code : List ColumnParts → List Value → ℕ → ℕ
column_code (c ∷ cs) (v ∷ vs) zero = code_of c.kind v
column_code (c ∷ cs) (v ∷ vs) (suc i) = column_code cs vs i
column_code _ _ i = 0

-- the bits of the key over columns of these numbers
unfoldable pub key_bits : List ColumnParts → List ℕ → ℕ
key_bits columns [] = 0
key_bits columns (i ∷ is) = column_bits columns i + key_bits columns is

-- the key of a row over columns of these numbers: their codes one after another in binary, the first column highest
unfoldable pub key_of : List ColumnParts → List Value → List ℕ → ℕ
key_of columns row [] = 0
key_of columns row (i ∷ is) = column_code columns row i * 2 ^ key_bits columns is + key_of columns row is
