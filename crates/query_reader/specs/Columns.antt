-- The columns that a query names, and what its literals mean there.
use Rattle.std.specs.Prelude.{ℕ, ◌^◌, nat_lt, List, length, Option, Some, None, Result, Ok, Err, position, slice_get, unwrap_or, option_map, if◌then◌else◌}
use Rattle.std.specs.Str.{bytes_eq}
use Rattle.spl_values.specs.Kinds.{bits_of}
use Rattle.spl_values.specs.Codes.{code_of}
use Rattle.spl_values.specs.CellTexts.{value_of_text}
use Rattle.spl_values.specs.Shapes.{SchemaParts}
use Rattle.spl_values.specs.declared.kinds.ColumnType.{ColumnType}
use Rattle.spl_values.specs.declared.kinds.ColumnType.TheVariants.{Uint, Text, Enum}
use Rattle.spl_values.specs.declared.values.Value.{Value}
use Rattle.spl_values.specs.declared.values.Value.TheVariants as value
use Rattle.spl_values.specs.declared.values.ValueFault.{ValueFault}
use Rattle.query_grammar.specs.declared.condition.Literal.{Literal}
use Rattle.query_grammar.specs.declared.condition.Literal.TheVariants as literal

-- The place of the column of that name, from 0.
abbrev pub column_of : SchemaParts → List ℕ → Option ℕ
column_of schema name = position (λ c. bytes_eq c.name name) schema.columns

-- The same, or 0 where there is none.
abbrev pub place_of : SchemaParts → List ℕ → ℕ
place_of schema name = unwrap_or (column_of schema name) 0

-- The type of the column at a place, where there is one.
abbrev pub kind_at : SchemaParts → Option ℕ → Option ColumnType
kind_at schema None = None
kind_at schema (Some i) = option_map (λ c. c.kind) (slice_get schema.columns i)

-- The type of the column of that name.
abbrev pub kind_of : SchemaParts → List ℕ → Option ColumnType
kind_of schema name = kind_at schema (column_of schema name)

-- The value that was read, if it was.
abbrev pub if_read : Result Value ValueFault → Option Value
if_read (Ok v) = Some v
if_read (Err e) = None

-- The value that a literal has in a column of that type: a number in a column of numbers that is wide enough, a text as the column reads it.
abbrev pub literal_value : ColumnType → Literal → Option Value
literal_value (Uint b) (literal.Number n) = if nat_lt n (2 ^ b) then Some (value.Number n) else None
literal_value (Uint b) (literal.Text t) = None
literal_value (Text k) (literal.Number n) = None
literal_value (Text k) (literal.Text t) = if_read (value_of_text (Text k) t)
literal_value (Enum labels) (literal.Number n) = None
literal_value (Enum labels) (literal.Text t) = if_read (value_of_text (Enum labels) t)

-- The code of a literal's value, or 0 where it has none.
abbrev pub code_in : Option ColumnType → Literal → ℕ
code_in None l = 0
code_in (Some kind) l = unwrap_or (option_map (code_of kind) (literal_value kind l)) 0

-- The code that a literal has in the column of that name.
abbrev pub literal_code : SchemaParts → List ℕ → Literal → ℕ
literal_code schema name l = code_in (kind_of schema name) l

-- The bits of a column, or 0 where there is none.
abbrev pub bits_in : Option ColumnType → ℕ
bits_in None = 0
bits_in (Some kind) = bits_of kind

-- The bits of the column of that name.
abbrev pub column_bits : SchemaParts → List ℕ → ℕ
column_bits schema name = bits_in (kind_of schema name)

-- How many labels a type has; 1 where it has none.
abbrev pub labels_in : Option ColumnType → ℕ
labels_in (Some (Enum labels)) = length labels
labels_in (Some (Uint b)) = 1
labels_in (Some (Text k)) = 1
labels_in None = 1

-- How many labels the column of that name has.
abbrev pub labels_of : SchemaParts → List ℕ → ℕ
labels_of schema name = labels_in (kind_of schema name)
