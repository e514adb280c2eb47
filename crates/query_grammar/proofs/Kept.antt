-- What some tokens read as keeps the form of a query.
use Rattle.std.proofs.Common.{◌≡◌, true, List, [], ◌∷◌, Option, Some, None, refl}
use Rattle.std.specs.List.{list_all}
use Rattle.query_grammar.specs.declared.condition.Public.{Public}
use Rattle.query_grammar.specs.declared.condition.Atom.{Atom}
use Rattle.query_grammar.specs.declared.token.Token.{Token}
use Rattle.query_grammar.specs.Queries.{QueryParts, is_branch}
use Rattle.query_grammar.specs.Grammar.{Condition, Parts, Branches, atoms_of, eithers_of, are_branches, BranchesOf, IsWhere, Reads}
use Rattle.query_grammar.specs.Canonical.{IsQuery}

inside_are : (bs : List (List Atom)) → are_branches bs ≡ true → list_all is_branch bs ≡ true
inside_are [] h = cc
inside_are (b ∷ bs) h = h

made_are : (xs : List Atom) (es : List (List (List Atom))) (br : List (List Atom)) → BranchesOf xs es br → list_all is_branch br ≡ true
made_are [] [] br b = rw b refl
made_are (a ∷ more) [] br b = rw b.1 (rw b.0 refl)
made_are [] (bs ∷ []) br b = rw b.1 (inside_are bs b.0)
made_are (a ∷ more) (bs ∷ []) br b = absurd b
made_are [] (bs ∷ cs ∷ more) br b = absurd b
made_are (x ∷ xs) (bs ∷ cs ∷ more) br b = absurd b

where_are : (c : Option Condition) (p : List Public) (br : List (List Atom)) → IsWhere c p br → list_all is_branch br ≡ true
where_are None p br is = rw is.1 refl
where_are (Some (Parts ps)) p br is = made_are (atoms_of ps) (eithers_of ps) br is.2
where_are (Some (Branches bs)) p br is = rw is.3 is.2

pub reads_query : (ts : List Token) (q : QueryParts) → Reads ts q → IsQuery q
reads_query ts q r = record { some = r.some; branches = where_are r.condition q.public q.branches r.parts }
