-- What single bytes mean in the text of a query, and what digits spell.
use Rattle.std.specs.Prelude.{ℕ, ◌+◌, ◌-◌, ◌*◌, ◌^◌, Bool, ◌&&◌, ◌||◌, List, [], ◌∷◌, Option, Some, None, eqb, nat_lt, nat_le, if◌then◌else◌}
use Rattle.query_grammar.specs.declared.token.Symbol.{Symbol}
use Rattle.query_grammar.specs.declared.token.Symbol.TheVariants.{Open, Close, Comma, Star, Equals, Question, Semicolon}

-- Whether the byte parts tokens: a space, a tab, CR or LF.
abbrev pub is_blank : ℕ → Bool
is_blank b = eqb b 32 || (eqb b 9 || (eqb b 13 || eqb b 10))

-- Whether the byte is a digit.
abbrev pub is_digit : ℕ → Bool
is_digit b = nat_le 48 b && nat_le b 57

-- The number that some digits spell, behind the number that stands before them.
abbrev pub decimal : ℕ → List ℕ → ℕ
decimal n [] = n
decimal n (d ∷ ds) = decimal (n * 10 + (d - 48)) ds

-- The number, where it is below 2^64.
abbrev pub below_end : ℕ → Option ℕ
below_end n = if nat_lt n (2 ^ 64) then Some n else None

-- The sign that a byte is.
abbrev pub symbol_of : ℕ → Option Symbol
symbol_of b =
    if eqb b 40 then Some Open else if eqb b 41 then Some Close else if eqb b 44 then Some Comma else if eqb b 42 then Some Star
    else if eqb b 61 then Some Equals else if eqb b 63 then Some Question else if eqb b 59 then Some Semicolon else None
