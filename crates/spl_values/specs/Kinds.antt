-- Column types and the values that they take.
use Rattle.std.specs.Prelude.{ℕ, ◌+◌, ◌-◌, ◌*◌, ◌/◌, ◌%◌, ◌^◌, ◌<◌, ◌≤◌, ◌==◌, Bool, ◌&&◌, nat_le, suc, zero, find, unwrap_or, List, [], ◌∷◌, ◌++◌, length, replicate, if◌then◌else◌, IsTrue}
use Rattle.std.specs.List.{list_all, range_with_len}
use Rattle.spl_values.specs.Names.{is_label, is_distinct}
use Rattle.spl_values.specs.declared.kinds.ColumnType.{ColumnType}
use Rattle.spl_values.specs.declared.kinds.ColumnType.TheVariants.{Uint, Text, Enum}
use Rattle.spl_values.specs.declared.values.Value.{Value}
use Rattle.spl_values.specs.declared.values.Value.TheVariants as value

-- a type that a column may have: 1 to 64 bits, 1 to 16 bytes, or 1 to 64 labels that differ
abbrev pub is_kind : ColumnType → Bool
is_kind (Uint b) = nat_le 1 b && nat_le b 64
is_kind (Text k) = nat_le 1 k && nat_le k 16
is_kind (Enum labels) = nat_le 1 (length labels) && nat_le (length labels) 64 && list_all is_label labels && is_distinct labels

-- the least number of bits, at least one, that tell so many labels apart, for up to 64 labels
abbrev pub label_bits : ℕ → ℕ
label_bits n = unwrap_or (find (λ w. nat_le n (2 ^ w)) (range_with_len 1 5)) 6

-- the bits of a column's codes
abbrev pub bits_of : ColumnType → ℕ
bits_of (Uint b) = b
bits_of (Text k) = 8 * k
bits_of (Enum labels) = label_bits (length labels)

-- printable ASCII
abbrev pub is_printable : ℕ → Bool
is_printable b = nat_le 32 b && nat_le b 126

-- bytes as a number, the first of them highest
unfoldable pub big_endian : List ℕ → ℕ
big_endian [] = 0
big_endian (b ∷ bs) = b * 256 ^ length bs + big_endian bs

-- a text, padded with 0 at its end to k bytes, as a number
abbrev pub padded : ℕ → List ℕ → ℕ
padded k text = big_endian (text ++ replicate (k - length text) 0)

-- the text of at most k bytes, none of them 0, whose padded number that is
unfoldable pub unpadded : ℕ → ℕ → List ℕ
unpadded zero n = []
unpadded (suc k) n = if n == 0 then [] else (n / 256 ^ k) ∷ unpadded k (n % 256 ^ k)

-- the text of a value, which is kept as its number when padded to 16 bytes
abbrev pub text_of : ℕ → List ℕ
text_of n = unpadded 16 n

-- printable bytes, no more than k
abbrev pub IsText : ℕ → List ℕ → Type 0
IsText k text = IsTrue (list_all is_printable text) × (length text ≤ k)

-- a value of a column of that type
abbrev pub Fits : ColumnType → Value → Type 0
Fits (Uint b) (value.Number n) = n < 2 ^ b
Fits (Text k) (value.Text n) = IsText k (text_of n)
Fits (Enum labels) (value.Label i) = i < length labels
Fits _ _ = ⊥
