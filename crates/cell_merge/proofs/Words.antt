-- Entries and their words.
use Rattle.std.proofs.Common.{◌≡◌, ◌≢◌, ℕ, zero, suc, ◌*◌, List, [], ◌∷◌, length, take, refl, ap, ◌∙◌, arith, eqb}
use Rattle.std.specs.List.{AllByRecursion}
use Rattle.std.proofs.lemmas.Bool.{ne_eqb, cond-false}
use Rattle.cell_merge.specs.declared.entry.Entry.{Entry}
use Rattle.cell_merge.specs.Entries.{entries_of, words_of}

pub words_of-take : (k : ℕ) (l : List Entry) → words_of k l ≡ words_of k (take k l)
unfolding words_of
words_of-take zero l = refl
words_of-take (suc k) [] = refl
words_of-take (suc k) (x ∷ l) = ap (λ r. x.place ∷ x.sort ∷ x.show ∷ r) (words_of-take k l)

pub length-words_of : (k : ℕ) (l : List Entry) → length (words_of k l) ≡ 3 * k
unfolding words_of
length-words_of zero l = refl
length-words_of (suc k) [] = let e = length-words_of k [] in omega arith
length-words_of (suc k) (x ∷ l) = let e = length-words_of k l in omega arith

no_entries : (k : ℕ) → entries_of (words_of k []) ≡ []
unfolding words_of entries_of
no_entries zero = refl
no_entries (suc k) = no_entries k

pub entries_of-words_of : (k : ℕ) (l : List Entry) → AllByRecursion (λ x. x.place ≢ 0) l → entries_of (words_of k l) ≡ take k l
unfolding words_of entries_of
entries_of-words_of zero l h = refl
entries_of-words_of (suc k) [] h = no_entries k
entries_of-words_of (suc k) (x ∷ l) h =
    cond-false (eqb x.place 0) (entries_of (words_of k l)) (x ∷ entries_of (words_of k l)) (ne_eqb x.place 0 h.0)
    ∙ ap (λ r. x ∷ r) (entries_of-words_of k l h.1)
