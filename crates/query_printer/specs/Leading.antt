-- The parts of a condition with the words that lead them.
use Rattle.std.specs.Prelude.{Bool, true, false, List, ◌∷◌}
use Rattle.std.specs.List.{flat_map}
use Rattle.query_grammar.specs.declared.token.Token.{Token}
use Rattle.query_grammar.specs.declared.token.Token.TheVariants.{Symbol}
use Rattle.query_grammar.specs.declared.token.Symbol.TheVariants.{Where, And}
use Rattle.query_grammar.specs.Grammar.{Part, part_text, where_text}
use Rattle.query_grammar.specs.Canonical.{some_parts}

-- WHERE leads the first part, AND every other.
abbrev pub lead : Bool → Token
lead true = Symbol Where
lead false = Symbol And

-- The parts that are left of a condition, each behind its word.
abbrev pub led : Bool → List Part → List Token
led true parts = where_text (some_parts parts)
led false parts = flat_map (λ p. (Symbol And) ∷ part_text p) parts
