-- The mapped tape of one tree, at each place.
use Rattle.std.specs.Prelude.{ℕ, Bool, true, false, cond, ◌&&◌, nat_eq, nat_lt}
use Rattle.spl_words.specs.declared.provider.Provider.{Provider}
use Rattle.spl_words.specs.declared.provider.Provider.TheVariants.{Zero, One}
use Rattle.spl_words.specs.declared.secret.TreeKind.{TreeKind}
use Rattle.spl_words.specs.Words.{other}
use Rattle.spl_words.specs.Secrets.{Secret}
use Rattle.seed_expansion.specs.declared.nodes.Block.{Block}
use Rattle.seed_expansion.specs.declared.nodes.Place.{Place}
use Rattle.seed_expansion.specs.Expanders.{Meaning}
use Rattle.seed_expansion.specs.Walk.{prefix}
use Rattle.tape_bijection.specs.Moves.{moved_block, moved_leaf}

-- whether two providers are the same one
abbrev pub same_provider : Provider → Provider → Bool
same_provider Zero Zero = true
same_provider Zero One = false
same_provider One Zero = false
same_provider One One = true

-- whether a place is provider o's in this tree, at one of the levels below n
abbrev pub is_block_place : ℕ → Provider → ℕ → Place → Bool
is_block_place tree o n q = same_provider o q.provider && (nat_eq q.tree tree && nat_lt q.level n)

-- whether it is a leaf's
abbrev pub is_leaf_place : ℕ → Provider → ℕ → Place → Bool
is_leaf_place tree o depth q = same_provider o q.provider && (nat_eq q.tree tree && nat_eq q.level depth)

-- whether it is on the path of a number
abbrev pub on_path : ℕ → ℕ → Place → Bool
on_path depth alpha q = nat_eq q.prefix (prefix depth alpha q.level)

-- the place of the same level on the path of a number
abbrev pub along : ℕ → ℕ → Place → Place
along depth alpha q = record { tree = q.tree; provider = q.provider; level = q.level; prefix = prefix depth alpha q.level }

-- the entry of a place: `to` on the second path, what stood on the second path on the rest of the first, and else its own
abbrev pub exchanged : {A : Type 0} → Bool → Bool → Bool → A → A → A → A
exchanged here second first to theirs its = cond (here && second) to (cond (here && first) theirs its)

module _ (e : Meaning) (p : Provider) (tree : ℕ) (s s2 : Secret) where
  -- the leaf words of the mapped tape
  unfoldable pub mapped_leaves : Place → ℕ → ℕ
  mapped_leaves q seed =
      exchanged (is_leaf_place tree (other p) s.depth q) (on_path s.depth s2.alpha q) (on_path s.depth s.alpha q)
      (moved_leaf e p tree s s2)
      (e.leaf (along s.depth s2.alpha q) 0)
      (e.leaf q seed)

module _ (kind : TreeKind) (e : Meaning) (p : Provider) (tree : ℕ) (s s2 : Secret) where
  -- the blocks of a tape whose first n levels are mapped
  unfoldable pub mapped_blocks : ℕ → Place → ℕ → Block
  mapped_blocks n q seed =
      exchanged (is_block_place tree (other p) n q) (on_path s.depth s2.alpha q) (on_path s.depth s.alpha q)
      (moved_block kind e p tree s s2 q.level)
      (e.block (along s.depth s2.alpha q) 0)
      (e.block q seed)

  -- the tape mapped in one tree, for the kept provider p
  abbrev pub mapped : Meaning
  mapped = record { block = mapped_blocks s.depth; leaf = mapped_leaves e p tree s s2 }
