-- Where a mapped tape has entries.
use Rattle.std.specs.Prelude.{ℕ, Bool, ◌&&◌, ◌||◌, is_some, cond, nat_lt, List, get_or}
use Rattle.spl_words.specs.declared.provider.Provider.{Provider}
use Rattle.spl_words.specs.Words.{other}
use Rattle.spl_words.specs.Secrets.{Secret}
use Rattle.seed_expansion.specs.declared.nodes.Place.{Place}
use Rattle.seed_expansion.specs.Tapes.{Entries, block_at, leaf_at}
use Rattle.tape_bijection.specs.Mapped.{is_block_place, is_leaf_place, on_path}
use Rattle.tape_bijection.specs.MappedLists.{no_secret}

-- whether a place has a block once the first n levels of a tree are mapped: where it had one, and at the other provider's places on both paths
abbrev pub has_block_after : ℕ → Entries → Provider → ℕ → Secret → Secret → Place → Bool
has_block_after n old p tree s s2 q =
    is_block_place tree (other p) n q && (on_path s.depth s2.alpha q || on_path s.depth s.alpha q) || is_some (block_at old q)

-- whether it has a leaf word once the tree is mapped: where it had one, and at the other provider's leaves of both paths
abbrev pub has_leaf_after : Entries → Provider → ℕ → Secret → Secret → Place → Bool
has_leaf_after old p tree s s2 q =
    is_leaf_place tree (other p) s.depth q && (on_path s.depth s2.alpha q || on_path s.depth s.alpha q) || is_some (leaf_at old q)

-- the same for blocks once the first n trees of two lists are mapped
abbrev pub has_block_in : ℕ → Entries → Provider → List Secret → List Secret → Place → Bool
has_block_in n old p from to q =
    let s = get_or from q.tree no_secret in
    cond (nat_lt q.tree n) (has_block_after s.depth old p q.tree s (get_or to q.tree no_secret) q) (is_some (block_at old q))

-- and for leaf words
abbrev pub has_leaf_in : ℕ → Entries → Provider → List Secret → List Secret → Place → Bool
has_leaf_in n old p from to q =
    cond (nat_lt q.tree n) (has_leaf_after old p q.tree (get_or from q.tree no_secret) (get_or to q.tree no_secret) q) (is_some (leaf_at old q))
