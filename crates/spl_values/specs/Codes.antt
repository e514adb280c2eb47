-- The codes of values, and the order of values.
use Rattle.std.specs.Prelude.{◌≡◌, ℕ, ◌<◌, ◌-◌, ◌*◌, ◌^◌}
use Rattle.std.specs.Ordering.{nat_cmp}
use Rattle.std.specs.Cmp.Lexicographic.{slice_cmp}
use Rattle.std.specs.declared.cmp.Ordering.TheVariants as ordering
use Rattle.spl_values.specs.Kinds.{padded, text_of}
use Rattle.spl_values.specs.declared.kinds.ColumnType.{ColumnType}
use Rattle.spl_values.specs.declared.kinds.ColumnType.TheVariants.{Uint, Text, Enum}
use Rattle.spl_values.specs.declared.values.Value.{Value}
use Rattle.spl_values.specs.declared.values.Value.TheVariants as value

-- the code of a value of the column: the number itself, the text padded to the column's bytes, or the label's place
abbrev pub code_of : ColumnType → Value → ℕ
code_of (Uint b) (value.Number n) = n
code_of (Text k) (value.Text n) = padded k (text_of n)
code_of (Enum labels) (value.Label i) = i
code_of _ _ = 0

-- the only value of a column that may have that code
abbrev pub value_with : ColumnType → ℕ → Value
value_with (Uint b) code = value.Number code
value_with (Text k) code = value.Text (code * 256 ^ (16 - k))
value_with (Enum labels) code = value.Label code

-- a value stands before another: numbers by size, texts as in a dictionary, labels as declared
abbrev pub IsBefore : ColumnType → Value → Value → Type 0
IsBefore (Uint b) (value.Number m) (value.Number n) = m < n
IsBefore (Text k) (value.Text m) (value.Text n) = slice_cmp nat_cmp (text_of m) (text_of n) ≡ ordering.Less
IsBefore (Enum labels) (value.Label i) (value.Label j) = i < j
IsBefore _ _ _ = ⊥
