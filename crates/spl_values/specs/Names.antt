-- Names, labels and reserved words.
use Rattle.std.specs.Prelude.{ℕ, ◌==◌, Bool, true, false, ◌&&◌, ◌||◌, not, nat_le, List, [], ◌∷◌, length, map, codes}
use Rattle.std.specs.Char.{to_ascii_lowercase}
use Rattle.std.specs.List.{list_all, list_any}
use Rattle.std.specs.Str.{bytes_eq}

-- a letter of ASCII or an underscore
abbrev pub is_name_start : ℕ → Bool
is_name_start b = (nat_le 65 b && nat_le b 90) || (nat_le 97 b && nat_le b 122) || (b == 95)

-- a letter, an underscore or a digit
abbrev pub is_name_byte : ℕ → Bool
is_name_byte b = is_name_start b || (nat_le 48 b && nat_le b 57)

-- a letter, an underscore, a digit or a minus sign
abbrev pub is_label_byte : ℕ → Bool
is_label_byte b = is_name_byte b || (b == 45)

-- the words of the query language that are no names
unfoldable pub reserved_words : List (List ℕ)
reserved_words = codes "SELECT" ∷ codes "FROM" ∷ codes "WHERE" ∷ codes "AND" ∷ codes "OR" ∷ codes "BETWEEN" ∷ codes "GROUP" ∷ codes "BY" ∷ codes "COUNT" ∷ codes "SUM" ∷ codes "AVG" ∷ codes "MAX" ∷ codes "MIN" ∷ codes "TOPK" ∷ []

-- the same word, but for the case of letters
abbrev pub is_same_word : List ℕ → List ℕ → Bool
is_same_word a b = bytes_eq (map to_ascii_lowercase a) (map to_ascii_lowercase b)

-- one of the reserved words, in any case of letters
abbrev pub is_reserved : List ℕ → Bool
is_reserved word = list_any (is_same_word word) reserved_words

-- a name: 1 to 32 bytes, a letter or an underscore first, then letters, digits and underscores, and no reserved word
unfoldable pub is_name : List ℕ → Bool
is_name [] = false
is_name (b ∷ bs) = is_name_start b && list_all is_name_byte bs && nat_le (length bs) 31 && not (is_reserved (b ∷ bs))

-- a label: 1 to 32 letters, digits, underscores and minus signs
unfoldable pub is_label : List ℕ → Bool
is_label bs = nat_le 1 (length bs) && nat_le (length bs) 32 && list_all is_label_byte bs

-- no text stands twice in the list
abbrev pub is_distinct : List (List ℕ) → Bool
is_distinct [] = true
is_distinct (x ∷ xs) = not (list_any (bytes_eq x) xs) && is_distinct xs
