-- Where a text stops being a query.
use Rattle.std.specs.Prelude.{◌≡◌, ℕ, List, [], ◌∷◌, ◌++◌, map, Option, Some, None, Result, Ok, Err}
use Rattle.query_grammar.specs.declared.token.Token.{Token}
use Rattle.query_grammar.specs.declared.token.Placed.{Placed}
use Rattle.query_grammar.specs.Queries.{QueryParts}
use Rattle.query_grammar.specs.Grammar.{Reads, IsBeginning}
use Rattle.query_grammar.specs.Machine.{State, step, finish}

-- The tokens without their places.
abbrev pub tokens_of : List Placed → List Token
tokens_of = map (λ p. p.token)

-- No query begins with the tokens of `front` and goes on with the first of `rest`, which begins at `o`; where there is no rest, the tokens of `front` are no query, and `o` is the end.
abbrev pub Stops : List Placed → List Placed → ℕ → ℕ → Type 0
Stops front [] end o = (o ≡ end) × ((q : QueryParts) → Reads (tokens_of front) q → ⊥)
Stops front (p ∷ more) end o = (o ≡ p.at) × (IsBeginning (tokens_of (front ++ p ∷ [])) → ⊥)

-- `o` is where the first token begins that no query goes on with, or the end where the tokens end too early.
pub record NoReadingAt (placed : List Placed) (end o : ℕ) : Type 0 where
  pub front : List Placed
  pub rest : List Placed
  pub split : placed ≡ front ++ rest
  pub begins : IsBeginning (tokens_of front)
  pub stops : Stops front rest end o

-- The verdict at the end of the tokens.
abbrev pub ended : Option QueryParts → ℕ → Result QueryParts ℕ
ended None end = Err end
ended (Some q) end = Ok q

-- The verdict behind a step: a fault where the step failed.
abbrev pub after : Option State → ℕ → (State → Result QueryParts ℕ) → Result QueryParts ℕ
after None at f = Err at
after (Some s) at f = f s

-- What reading from a state on gives: the query, or the place of the fault.
abbrev pub verdict : State → List Placed → ℕ → Result QueryParts ℕ
verdict s [] end = ended (finish s) end
verdict s (p ∷ ps) end = after (step s p.token) p.at (λ z. verdict z ps end)
