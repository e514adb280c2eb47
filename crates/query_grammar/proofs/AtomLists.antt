-- Lists of atoms and tests.
use Rattle.std.proofs.Common.{◌≡◌, Bool, true, false, ◌&&◌, List, [], ◌∷◌, ◌++◌, refl}
use Rattle.query_grammar.specs.declared.condition.Atom.{Atom}
use Rattle.query_grammar.specs.declared.condition.Atom.TheVariants as atom
use Rattle.query_grammar.specs.Queries.{ends_in_range, ranges_last}

pub both : (a b : Bool) → (a && b) ≡ true → (a ≡ true) × (b ≡ true)
both true b h = (refl, h)
both false b h = cc

-- what stands before another atom ends in no range
pub no_range : (xs : List Atom) (a : Atom) (more : List Atom) → ranges_last (xs ++ a ∷ more) ≡ true → ends_in_range xs ≡ false
no_range [] a more h = refl
no_range (atom.Equal n ∷ []) a more h = refl
no_range (atom.Between n ∷ []) a more h = cc
no_range (atom.Equal n ∷ y ∷ xs) a more h = no_range (y ∷ xs) a more h
no_range (atom.Between n ∷ y ∷ xs) a more h = cc

-- one more atom, where none of the others is a range
pub one_more : (xs : List Atom) (a : Atom) → ranges_last xs ≡ true → ends_in_range xs ≡ false → ranges_last (xs ++ a ∷ []) ≡ true
one_more [] a h e = refl
one_more (atom.Equal n ∷ []) a h e = refl
one_more (atom.Between n ∷ []) a h e = cc
one_more (atom.Equal n ∷ y ∷ xs) a h e = one_more (y ∷ xs) a h e
one_more (atom.Between n ∷ y ∷ xs) a h e = cc
