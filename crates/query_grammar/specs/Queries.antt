-- Queries, as data.
use Rattle.std.specs.Prelude.{ℕ, Bool, true, false, List, [], ◌∷◌, Option}
use Rattle.query_grammar.specs.declared.item.Item.{Item}
use Rattle.query_grammar.specs.declared.condition.Public.{Public}
use Rattle.query_grammar.specs.declared.condition.Atom.{Atom}
use Rattle.query_grammar.specs.declared.condition.Atom.TheVariants as atom

-- A query, as the parts that its text states.
pub record QueryParts : Type 0 where
  pub items : List Item
  pub table : List ℕ
  pub public : List Public
  pub branches : List (List Atom)
  pub group : Option (List ℕ)

-- Whether the last atom is a range.
abbrev pub ends_in_range : List Atom → Bool
ends_in_range [] = false
ends_in_range (atom.Equal n ∷ []) = false
ends_in_range (atom.Between n ∷ []) = true
ends_in_range (a ∷ b ∷ more) = ends_in_range (b ∷ more)

-- Whether a range stands only last.
abbrev pub ranges_last : List Atom → Bool
ranges_last [] = true
ranges_last (a ∷ []) = true
ranges_last (atom.Equal n ∷ b ∷ more) = ranges_last (b ∷ more)
ranges_last (atom.Between n ∷ b ∷ more) = false

-- A branch has at least one atom, and a range only last.
abbrev pub is_branch : List Atom → Bool
is_branch [] = false
is_branch (a ∷ more) = ranges_last (a ∷ more)
