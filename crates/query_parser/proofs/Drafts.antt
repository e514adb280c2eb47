-- From a draft to a query.
use Rattle.std.proofs.Common.{◌≡◌, ℕ, List, Option, refl}
use Rattle.query_grammar.specs.declared.item.Item.{Item}
use Rattle.query_grammar.specs.declared.condition.Public.{Public}
use Rattle.query_grammar.specs.declared.condition.Atom.{Atom}
use Rattle.query_grammar.specs.Queries.{QueryParts}
use Rattle.query_grammar.specs.Machine.{Found, with_atoms, query_of}

pub drafted_as : (is js : List Item) (table : List ℕ) (w : Found) (p : List Public) (b : List (List Atom)) (g : Option (List ℕ)) → js ≡ is → p ≡ w.public → b ≡ with_atoms w.branches w.atoms
    → (let q : QueryParts = record { items = js; table = table; public = p; branches = b; group = g } in query_of (record { items = is; table = table }) w g ≡ q)
drafted_as is js table w p b g e f h = rw (e, f, h) refl
