-- Where the names of columns stand in a query.
use Rattle.std.specs.Prelude.{ℕ, List, [], ◌∷◌, ◌++◌, map, Option, Some, None}
use Rattle.std.specs.List.{flat_map}
use Rattle.query_grammar.specs.declared.item.Item.{Item}
use Rattle.query_grammar.specs.declared.item.Item.TheVariants as item
use Rattle.query_grammar.specs.declared.condition.Public.{Public}
use Rattle.query_grammar.specs.declared.condition.Public.TheVariants as public
use Rattle.query_grammar.specs.declared.condition.Atom.{Atom}
use Rattle.query_grammar.specs.declared.condition.Atom.TheVariants as atom
use Rattle.query_grammar.specs.Queries.{QueryParts}
use Rattle.query_reader.specs.declared.uses.Role.{Role}
use Rattle.query_reader.specs.declared.uses.Role.TheVariants.{Summed, Ranked, Compared, Bounded, Secret, Grouped}
use Rattle.query_reader.specs.declared.uses.Use.{Use}

-- A name, and where it stands.
abbrev pub use_at : List ℕ → Role → Use
use_at name role = record { name = name; role = role }

-- The names in an item.
abbrev pub item_uses : Item → List Use
item_uses item.Count = []
item_uses (item.Sum n) = use_at n Summed ∷ []
item_uses (item.Avg n) = use_at n Summed ∷ []
item_uses (item.Max n) = use_at n Ranked ∷ []
item_uses (item.Min n) = use_at n Ranked ∷ []
item_uses (item.TopK k sort show) = use_at sort Ranked ∷ use_at show Ranked ∷ []

-- The name in a public condition.
abbrev pub public_use : Public → Use
public_use (public.Equal n l) = use_at n (Compared l)
public_use (public.Between n l m) = use_at n (Bounded l m)

-- The name in an atom.
abbrev pub atom_use : Atom → Use
atom_use (atom.Equal n) = use_at n Secret
atom_use (atom.Between n) = use_at n Secret

-- The name behind GROUP BY.
abbrev pub group_uses : Option (List ℕ) → List Use
group_uses None = []
group_uses (Some n) = use_at n Grouped ∷ []

-- The names of columns in a query, in the order of its canonical text.
abbrev pub uses_of : QueryParts → List Use
uses_of q = flat_map item_uses q.items ++ map public_use q.public ++ flat_map (map atom_use) q.branches ++ group_uses q.group
