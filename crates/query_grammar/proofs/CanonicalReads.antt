-- The canonical tokens of a query are read as that query.
use Rattle.std.proofs.Common.{◌≡◌, true, false, List, [], ◌∷◌, ◌++◌, map, refl, sym, ap, subst, arith}
use Rattle.std.proofs.lemmas.List.{append-nil}
use Rattle.std.specs.List.{list_all}
use Rattle.query_grammar.specs.declared.condition.Public.{Public}
use Rattle.query_grammar.specs.declared.condition.Atom.{Atom}
use Rattle.query_grammar.specs.declared.token.Token.TheVariants.{Symbol, Name}
use Rattle.query_grammar.specs.declared.token.Symbol.TheVariants.{Select, From, Comma}
use Rattle.query_grammar.specs.Queries.{QueryParts, is_branch}
use Rattle.query_grammar.specs.Grammar.{joined, item_text, Part, Shown, where_text, group_text, BranchesOf, IsWhere, Reads}
use Rattle.query_grammar.specs.Canonical.{branch_parts, some_parts, canonical, IsQuery}
use Rattle.query_grammar.proofs.AtomLists.{both}
use Rattle.query_grammar.proofs.Led.{PartsAre, parts_more, bare_parts}

shown_parts : (ps : List Public) → PartsAre (map Shown ps) ps [] []
shown_parts [] = record { public = refl; atoms = refl; eithers = refl }
shown_parts (p ∷ ps) = let i = shown_parts ps in record { public = ap (λ l. p ∷ l) i.public; atoms = i.atoms; eithers = i.eithers }

pub record Makes (br : List (List Atom)) : Type 0 where
  pub xs : List Atom
  pub es : List (List (List Atom))
  pub parts : PartsAre (branch_parts br) [] xs es
  pub are : BranchesOf xs es br

one_branch : (b : List Atom) → is_branch b ≡ true → BranchesOf b [] (b ∷ [])
one_branch [] is = cc
one_branch (a ∷ more) is = (is, refl)

makes : (br : List (List Atom)) → list_all is_branch br ≡ true → Makes br
makes [] all = record { xs = []; es = []; parts = record { public = refl; atoms = refl; eithers = refl }; are = refl }
makes (b ∷ []) all = record { xs = b; es = []; parts = bare_parts b; are = one_branch b (both (is_branch b) true all).0 }
makes (b ∷ c ∷ bs) all = record { xs = []; es = (b ∷ c ∷ bs) ∷ []; parts = record { public = refl; atoms = refl; eithers = refl }; are = (all, refl) }

where_of : (ps : List Part) (p : List Public) (xs : List Atom) (es : List (List (List Atom))) (br : List (List Atom)) → PartsAre ps p xs es → BranchesOf xs es br → IsWhere (some_parts ps) p br
where_of [] p xs es br are is = (sym are.public, rw (← are.atoms, ← are.eithers) at is)
where_of (x ∷ ps) p xs es br are is = (omega arith, sym are.public, rw (are.atoms, are.eithers) is)

pub canonical_reads : (q : QueryParts) → IsQuery q → Reads (canonical q) q
canonical_reads q is =
    let m = makes q.branches is.branches in
    let ps = parts_more (map Shown q.public) (branch_parts q.branches) q.public [] [] m.xs [] m.es (shown_parts q.public) m.parts in
    record {
      condition = some_parts (map Shown q.public ++ branch_parts q.branches);
      ended = false;
      some = is.some;
      parts =
          where_of (map Shown q.public ++ branch_parts q.branches) q.public m.xs m.es q.branches
          (subst (λ (l : List Public). PartsAre (map Shown q.public ++ branch_parts q.branches) l m.xs m.es) (append-nil q.public) ps) m.are;
      text =
          ap (λ l. (Symbol Select) ∷ joined (Symbol Comma) item_text q.items ++ ((Symbol From) ∷ Name q.table ∷ where_text (some_parts (map Shown q.public ++ branch_parts q.branches)) ++ l))
          (sym (append-nil (group_text q.group)));
    }
