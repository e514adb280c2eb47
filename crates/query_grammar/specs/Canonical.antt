-- The canonical tokens of a query.
use Rattle.std.specs.Prelude.{◌≡◌, ◌≤◌, true, List, [], ◌∷◌, ◌++◌, map, length, Option, Some, None}
use Rattle.std.specs.List.{list_all}
use Rattle.query_grammar.specs.declared.condition.Atom.{Atom}
use Rattle.query_grammar.specs.declared.token.Token.{Token}
use Rattle.query_grammar.specs.declared.token.Token.TheVariants.{Symbol, Name}
use Rattle.query_grammar.specs.declared.token.Symbol.TheVariants.{Select, From, Comma}
use Rattle.query_grammar.specs.Queries.{QueryParts, is_branch}
use Rattle.query_grammar.specs.Grammar.{joined, item_text, Part, Shown, Bare, Either, Condition, Parts, where_text, group_text}

-- One branch as its atoms, several in parentheses.
abbrev pub branch_parts : List (List Atom) → List Part
branch_parts [] = []
branch_parts (b ∷ []) = map Bare b
branch_parts (b ∷ c ∷ bs) = Either (b ∷ c ∷ bs) ∷ []

-- The condition of some parts, where there are any.
abbrev pub some_parts : List Part → Option Condition
some_parts [] = None
some_parts (p ∷ ps) = Some (Parts (p ∷ ps))

-- The canonical tokens of a query: publics first, then the branches.
abbrev pub canonical : QueryParts → List Token
canonical q = (Symbol Select) ∷ joined (Symbol Comma) item_text q.items
    ++ ((Symbol From) ∷ Name q.table ∷ where_text (some_parts (map Shown q.public ++ branch_parts q.branches)) ++ group_text q.group)

-- What every query keeps: an item at least, no empty branch, and a range only last in its branch.
pub record IsQuery (q : QueryParts) : Type 0 where
  pub some : 1 ≤ length q.items
  pub branches : list_all is_branch q.branches ≡ true
