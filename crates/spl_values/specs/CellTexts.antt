-- Values as texts.
use Rattle.std.specs.Prelude.{ℕ, ◌^◌, Bool, ◌&&◌, nat_le, nat_lt, not, List, [], length, if◌then◌else◌, Option, Some, None, Result, Ok, Err, position, slice_index_or}
use Rattle.std.specs.Fmt.{decimal}
use Rattle.std.specs.Char.{is_ascii_digit}
use Rattle.std.specs.List.{list_all}
use Rattle.std.specs.Str.{bytes_eq}
use Rattle.std.specs.Str.Parse.{digits_value}
use Rattle.spl_values.specs.Kinds.{is_printable, padded, text_of}
use Rattle.spl_values.specs.declared.kinds.ColumnType.{ColumnType}
use Rattle.spl_values.specs.declared.kinds.ColumnType.TheVariants.{Uint, Text, Enum}
use Rattle.spl_values.specs.declared.values.Value.{Value}
use Rattle.spl_values.specs.declared.values.Value.TheVariants as value
use Rattle.spl_values.specs.declared.values.ValueFault.{ValueFault}
use Rattle.spl_values.specs.declared.values.ValueFault.TheVariants as fault

-- one or more decimal digits
abbrev pub is_number : List ℕ → Bool
is_number text = nat_le 1 (length text) && list_all is_ascii_digit text

-- the number that a text says, if it has no more than so many bits; leading zeros are taken
abbrev pub number_of_text : ℕ → List ℕ → Result ℕ ValueFault
number_of_text bits text =
    if is_number text
    then (if nat_lt (digits_value 10 text) (2 ^ bits) then Ok (digits_value 10 text) else Err fault.TooLarge)
    else Err fault.NotANumber

-- a number as a value
abbrev pub number_value : Result ℕ ValueFault → Result Value ValueFault
number_value (Ok n) = Ok (value.Number n)
number_value (Err e) = Err e

-- the first byte that isn't printable, if there is one
abbrev pub bad_byte_value : ℕ → List ℕ → Option ℕ → Result Value ValueFault
bad_byte_value k text (Some i) = Err (fault.BadByte i)
bad_byte_value k text None = Ok (value.Text (padded 16 text))

-- what a text says in a column of texts of at most k bytes
abbrev pub text_value : ℕ → List ℕ → Result Value ValueFault
text_value k text =
    if nat_le (length text) k
    then bad_byte_value k text (position (λ b. not (is_printable b)) text)
    else Err (fault.TooLong (length text))

-- the label at that place, if there is one
abbrev pub label_value : Option ℕ → Result Value ValueFault
label_value (Some i) = Ok (value.Label i)
label_value None = Err fault.NoSuchLabel

-- what a text says in a column of that type: a value, or why it says none
abbrev pub value_of_text : ColumnType → List ℕ → Result Value ValueFault
value_of_text (Uint b) text = number_value (number_of_text b text)
value_of_text (Text k) text = text_value k text
value_of_text (Enum labels) text = label_value (position (λ label. bytes_eq label text) labels)

-- a value as a text
abbrev pub text_of_value : ColumnType → Value → List ℕ
text_of_value (Uint b) (value.Number n) = decimal n
text_of_value (Text k) (value.Text n) = text_of n
text_of_value (Enum labels) (value.Label i) = slice_index_or labels i []
text_of_value _ _ = []
