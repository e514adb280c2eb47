-- What lists of secrets of the same trees have in common.
use Rattle.std.proofs.Common.{◌≡◌, ℕ, List, length, get_or, sym, ap, ◌∙◌}
use Rattle.std.proofs.Math.ListN.{get_or-map}
use Rattle.std.proofs.lemmas.List.{length-map}
use Rattle.spl_words.specs.declared.secret.KeySpec.{KeySpec}
use Rattle.spl_words.specs.Secrets.{Secret, secret_tree}
use Rattle.tape_bijection.specs.MappedLists.{SameTrees, no_secret}

-- their lengths
pub same_length : (from to : List Secret) → SameTrees from to → length to ≡ length from
same_length from to same = sym (length-map to secret_tree) ∙ ap length same ∙ length-map from secret_tree

-- and the tree at each index
pub same_tree : (from to : List Secret) → SameTrees from to → (i : ℕ) → secret_tree (get_or to i no_secret) ≡ secret_tree (get_or from i no_secret)
same_tree from to same i =
    sym (get_or-map secret_tree to i no_secret) ∙ ap (λ l. get_or l i (secret_tree no_secret)) same ∙ get_or-map secret_tree from i no_secret

-- the second of two secrets of one tree, with the first's kind and depth
abbrev pub second_of : Secret → Secret → Secret
second_of t u = record { kind = t.kind; depth = t.depth; alpha = u.alpha; beta = u.beta }

pub second_is : (t u : Secret) → secret_tree u ≡ secret_tree t → u ≡ second_of t u
second_is t u same = ap (λ (k : KeySpec). record { kind = k.kind; depth = k.depth; alpha = u.alpha; beta = u.beta }) same
