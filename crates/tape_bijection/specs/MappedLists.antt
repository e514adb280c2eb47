-- The tape mapped in all trees of two lists of secrets.
use Rattle.std.specs.Prelude.{◌≡◌, ℕ, cond, nat_lt, List, length, get_or, map}
use Rattle.spl_words.specs.declared.provider.Provider.{Provider}
use Rattle.spl_words.specs.declared.secret.TreeKind.TheVariants.{Point}
use Rattle.spl_words.specs.Secrets.{Secret, secret_tree}
use Rattle.seed_expansion.specs.Expanders.{Meaning}
use Rattle.tape_bijection.specs.Mapped.{mapped}

-- lists of secrets of the same trees: of equal kinds and depths
abbrev pub SameTrees : List Secret → List Secret → Type 0
SameTrees from to = map secret_tree to ≡ map secret_tree from

-- what stands past the end of a list of secrets
abbrev pub no_secret : Secret
no_secret = record { kind = Point; depth = 0; alpha = 0; beta = 0 }

-- the tape mapped in one tree
abbrev pub mapped_tree : Meaning → Provider → ℕ → Secret → Secret → Meaning
mapped_tree e p tree s s2 = mapped s.kind e p tree s s2

-- the tape mapped in its first n trees; the i-th secrets are those of tree i
abbrev pub mapped_trees : ℕ → Meaning → Provider → List Secret → List Secret → Meaning
mapped_trees n e p from to = record {
  block = λ q seed. cond (nat_lt q.tree n) ((mapped_tree e p q.tree (get_or from q.tree no_secret) (get_or to q.tree no_secret)).block q seed) (e.block q seed);
  leaf = λ q seed. cond (nat_lt q.tree n) ((mapped_tree e p q.tree (get_or from q.tree no_secret) (get_or to q.tree no_secret)).leaf q seed) (e.leaf q seed);
}

-- the tape mapped from one list of secrets to the other, tree by tree
abbrev pub mapped_list : Meaning → Provider → List Secret → List Secret → Meaning
mapped_list e p from to = mapped_trees (length from) e p from to
