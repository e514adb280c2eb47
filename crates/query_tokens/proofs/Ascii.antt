-- The bytes of a word are text.
use Rattle.std.proofs.Common.{◌≡◌, ℕ, ◌<◌, true, List, [], ◌∷◌, get_or, zero, suc, arith}
use Rattle.std.proofs.lemmas.Bool.Decides.{nat_tests}
use Rattle.std.proofs.lemmas.Str.{IsUtf8-from_ascii}
use Rattle.std.specs.Str.{IsUtf8}
use Rattle.std.specs.List.{list_all}
use Rattle.query_grammar.proofs.AtomLists.{both}
use Rattle.spl_values.specs.Names.{is_name_byte}

byte_small : (b : ℕ) → is_name_byte b ≡ true → b < 128
byte_small b h = grind (arith, nat_tests)

bytes_small : (w : List ℕ) → list_all is_name_byte w ≡ true → (i : ℕ) → get_or w i 0 < 128
bytes_small [] h i = omega arith
bytes_small (b ∷ w) h zero = byte_small b (both (is_name_byte b) (list_all is_name_byte w) h).0
bytes_small (b ∷ w) h (suc i) = bytes_small w (both (is_name_byte b) (list_all is_name_byte w) h).1 i

pub word_is_text : (w : List ℕ) → list_all is_name_byte w ≡ true → IsUtf8 w
word_is_text w h = IsUtf8-from_ascii w (bytes_small w h)
