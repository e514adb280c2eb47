-- The tokens of a text, with where each begins.
use Rattle.std.specs.Prelude.{◌≡◌, ℕ, zero, suc, pred, ◌+◌, Bool, true, false, List, [], ◌∷◌, length, take, drop, option_map, Option, Some, None, eqb, nat_lt, if◌then◌else◌, slice_index, codes, unwrap_or}
use Rattle.std.specs.List.{take_while}
use Rattle.query_grammar.specs.declared.token.Aggregate.TheVariants as aggregate
use Rattle.query_grammar.specs.declared.token.Symbol.TheVariants as symbol
use Rattle.query_grammar.specs.declared.token.Token.{Token}
use Rattle.query_grammar.specs.declared.token.Token.TheVariants.{Symbol as TheSymbol, Aggregate, Name, Number, Text, Nothing}
use Rattle.query_grammar.specs.declared.token.Placed.{Placed}
use Rattle.query_tokens.specs.declared.lexer.Lexeme.{Lexeme}
use Rattle.spl_values.specs.Names.{is_name_start, is_name_byte, is_same_word}
use Rattle.spl_values.specs.Kinds.{is_printable}
use Rattle.query_tokens.specs.Lexing.{is_blank, is_digit, decimal, below_end, symbol_of}

-- The same word but for the case of letters. It is kept folded, so that a word isn't compared letter by letter.
unfoldable pub same_word : List ℕ → List ℕ → Bool
same_word a b = is_same_word a b

-- A word is reserved in any case of letters, or a name.
abbrev pub word_token : List ℕ → Token
word_token w =
    if same_word w (codes "SELECT") then TheSymbol symbol.Select else if same_word w (codes "FROM") then TheSymbol symbol.From
    else if same_word w (codes "WHERE") then TheSymbol symbol.Where else if same_word w (codes "AND") then TheSymbol symbol.And
    else if same_word w (codes "OR") then TheSymbol symbol.Or else if same_word w (codes "BETWEEN") then TheSymbol symbol.Between
    else if same_word w (codes "GROUP") then TheSymbol symbol.Group else if same_word w (codes "BY") then TheSymbol symbol.By
    else if same_word w (codes "COUNT") then TheSymbol symbol.Count else if same_word w (codes "SUM") then Aggregate aggregate.Sum
    else if same_word w (codes "AVG") then Aggregate aggregate.Avg else if same_word w (codes "MAX") then Aggregate aggregate.Max
    else if same_word w (codes "MIN") then Aggregate aggregate.Min else if same_word w (codes "TOPK") then TheSymbol symbol.TopK else Name w

-- A token, and how many of its bytes stand behind the first.
abbrev pub lexeme_with : Token → ℕ → Lexeme
lexeme_with token more = record { token = token; more = more }

-- The token of a word; none where it is over 32 bytes.
abbrev pub word_lexeme : List ℕ → Option Lexeme
word_lexeme w = if nat_lt 32 (length w) then None else Some (lexeme_with (word_token w) (pred (length w)))

-- The token of a number; none where it is 2^64 or more.
abbrev pub number_lexeme : List ℕ → Option Lexeme
number_lexeme ds = option_map (λ n. lexeme_with (Number n) (pred (length ds))) (below_end (decimal 0 ds))

-- Behind the first quote of a text: how many bytes it takes up to the last quote that can end it. `closed`: the byte before is a quote that can.
abbrev pub text_end : Bool → List ℕ → Option ℕ
text_end closed [] = None
text_end true (b ∷ bs) = if eqb b 39 then option_map suc (text_end false bs) else None
text_end false (b ∷ bs) =
    if eqb b 39 then Some (suc (unwrap_or (text_end true bs) 0)) else (if is_printable b then option_map suc (text_end false bs) else None)

-- Two quotes stand for one. `second`: the byte before was the first of two.
abbrev pub undoubled : Bool → List ℕ → List ℕ
undoubled second [] = []
undoubled true (b ∷ bs) = undoubled false bs
undoubled false (b ∷ bs) = b ∷ undoubled (eqb b 39) bs

-- The text whose first quote stands before these bytes.
abbrev pub text_lexeme : List ℕ → Option Lexeme
text_lexeme bs = option_map (λ n. lexeme_with (Text (undoubled false (take (pred n) bs))) n) (text_end false bs)

-- The longest token at the front.
unfoldable pub lexeme : List ℕ → Option Lexeme
lexeme bs =
    if is_name_start (slice_index bs 0) then word_lexeme (take_while is_name_byte bs) else if is_digit (slice_index bs 0) then number_lexeme (take_while is_digit bs)
    else if eqb (slice_index bs 0) 39 then text_lexeme (drop 1 bs) else option_map (λ s. lexeme_with (TheSymbol s) 0) (symbol_of (slice_index bs 0))

-- A token, and where it begins.
abbrev pub place : Token → ℕ → Placed
place t at = record { token = t; at = at }

-- A token and the tokens behind it, or a place where the bytes form none, which ends the list.
abbrev pub placed_by : ℕ → Option Lexeme → (ℕ → List Placed) → List Placed
placed_by at None rest = place Nothing at ∷ []
placed_by at (Some x) rest = place x.token at ∷ rest x.more

-- The tokens of the bytes from a place on. `inside`: how many bytes of a token are still to pass.
abbrev pub lexed : ℕ → ℕ → List ℕ → List Placed
lexed inside at [] = []
lexed (suc inside) at (b ∷ bs) = lexed inside (at + 1) bs
lexed zero at (b ∷ bs) = if is_blank b then lexed 0 (at + 1) bs else placed_by at (lexeme (b ∷ bs)) (λ k. lexed k (at + 1) bs)

-- The tokens of a text.
unfoldable pub tokens_in : List ℕ → List Placed
tokens_in text = lexed 0 0 text

-- No byte of a word stands in front.
abbrev pub EndsWord : List ℕ → Type 0
EndsWord [] = Unit {0}
EndsWord (b ∷ bs) = is_name_byte b ≡ false
