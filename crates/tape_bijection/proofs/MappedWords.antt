-- A mapped tape is a tape, and its words are below 2 ^ 64.
use Rattle.std.proofs.Common.{ℕ, ◌^◌, ◌<◌, List, Bool, true, false, ◌&&◌, cond, get_or, length, ltb, ap₂, arith, subst, sym}
use Rattle.spl_words.specs.declared.provider.Provider.{Provider}
use Rattle.spl_words.specs.declared.provider.Provider.TheVariants.{Zero, One}
use Rattle.spl_words.specs.declared.secret.TreeKind.{TreeKind}
use Rattle.spl_words.specs.declared.secret.TreeKind.TheVariants.{Point, Threshold}
use Rattle.spl_words.specs.Words.{other}
use Rattle.spl_words.specs.Secrets.{Secret}
use Rattle.seed_expansion.specs.declared.nodes.Block.{Block}
use Rattle.seed_expansion.specs.Expanders.{Meaning, IsTape}
use Rattle.seed_expansion.specs.Tapes.{HasWords}
use Rattle.seed_expansion.specs.Walk.{path, place, side, word_at}
use Rattle.interval_keys.specs.declared.keys.ThresholdLevel.{ThresholdLevel}
use Rattle.interval_keys.specs.Thresholds.{level_of, target}
use Rattle.tape_bijection.specs.Moves.{kept_bit, moved_block, moved_leaf, moved_level_word, moved_word}
use Rattle.tape_bijection.specs.Mapped.{along, is_block_place, is_leaf_place, mapped, mapped_blocks, mapped_leaves, on_path}
use Rattle.tape_bijection.specs.MappedLists.{mapped_list, mapped_tree, no_secret}
use Rattle.tape_bijection.proofs.MappedAt.{mapped_is_tape}
use Rattle.tape_bijection.proofs.SameKeys.{word_at-moved}

either : {A : Type 0} (P : A → Type 0) (b : Bool) (x y : A) → P x → P y → P (cond b x y)
either P true x y h k = h
either P false x y h k = k

word_small : (p : Provider) (t : Bool) (w v goal : ℕ) → moved_word p t w v goal < 2 ^ 64
unfolding moved_word
word_small Zero t w v goal = omega arith
word_small One t w v goal = omega arith

level_word_small : (kind : TreeKind) (p : Provider) (t : Bool) (goal : ℕ) (row : ThresholdLevel) (b q : Block) (d : Bool) → word_at d b < 2 ^ 64 → moved_level_word kind p t goal row b q d < 2 ^ 64
level_word_small Point p t goal row b q d h = h
level_word_small Threshold p t goal row b q d h = word_small p t _ _ goal

module _ (e : Meaning) (words : HasWords e) (p : Provider) (tree : ℕ) (s s2 : Secret) where
  leaf_small : moved_leaf e p tree s s2 < 2 ^ 64
  unfolding moved_leaf
  leaf_small = word_small p _ _ _ _

  block_small : (kind : TreeKind) (i : ℕ) (d : Bool) → word_at d (moved_block kind e p tree s s2 i) < 2 ^ 64
  unfolding moved_block
  block_small kind i d =
      let keep2 = side s.depth s2.alpha i in
      let row = level_of e tree s i (path e tree s (0, 0) i) in
      let b = e.block (place tree (other p) s.depth s.alpha i) 0 in
      let q = e.block (place tree p s.depth s2.alpha i) 0 in
      let word : Bool → ℕ = λ k. moved_level_word kind p (kept_bit e p tree s s2 i) (target keep2 s2.beta k) row b q k in
      subst (λ n. n < 2 ^ 64) (sym (word_at-moved d (side s.depth s.alpha i) keep2 row.correction b q word))
      (level_word_small kind p (kept_bit e p tree s s2 i) (target keep2 s2.beta d) row b q d (words.blocks _ 0 d))

  tree_words : (kind : TreeKind) → HasWords (mapped kind e p tree s s2)
  unfolding mapped_blocks mapped_leaves
  tree_words kind = record {
    blocks = λ q seed d.
        let small : Block → Type 0 = λ b. word_at d b < 2 ^ 64 in
        let here = is_block_place tree (other p) s.depth q in
        let there = e.block (along s.depth s2.alpha q) 0 in
        either small (here && on_path s.depth s2.alpha q) _ _ (block_small kind q.level d)
        (either small (here && on_path s.depth s.alpha q) there (e.block q seed) (words.blocks _ 0 d) (words.blocks q seed d));
    leaves = λ q seed.
        let small : ℕ → Type 0 = λ n. n < 2 ^ 64 in
        let here = is_leaf_place tree (other p) s.depth q in
        let there = e.leaf (along s.depth s2.alpha q) 0 in
        either small (here && on_path s.depth s2.alpha q) _ _ leaf_small
        (either small (here && on_path s.depth s.alpha q) there (e.leaf q seed) (words.leaves _ 0) (words.leaves q seed));
  }

module _ (e : Meaning) (p : Provider) (from to : List Secret) where
  abbrev one : ℕ → Meaning
  one k = mapped_tree e p k (get_or from k no_secret) (get_or to k no_secret)

  pub stays_words : HasWords e → HasWords (mapped_list e p from to)
  stays_words words = record {
    blocks = λ q seed d. either (λ (b : Block). word_at d b < 2 ^ 64) (ltb q.tree (length from)) ((one q.tree).block q seed) (e.block q seed) ((own q.tree).blocks q seed d) (words.blocks q seed d);
    leaves = λ q seed. either (λ n. n < 2 ^ 64) (ltb q.tree (length from)) ((one q.tree).leaf q seed) (e.leaf q seed) ((own q.tree).leaves q seed) (words.leaves q seed);
  }
    where
      own : (k : ℕ) → HasWords (one k)
      own k = tree_words e words p k (get_or from k no_secret) (get_or to k no_secret) (get_or from k no_secret).kind

  pub stays_tape : IsTape e → IsTape (mapped_list e p from to)
  stays_tape tape = record {
    blocks = λ q x y. ap₂ (cond (ltb q.tree (length from))) ((own q.tree).blocks q x y) (tape.blocks q x y);
    leaves = λ q x y. ap₂ (cond (ltb q.tree (length from))) ((own q.tree).leaves q x y) (tape.leaves q x y);
  }
    where
      own : (k : ℕ) → IsTape (one k)
      own k = mapped_is_tape (get_or from k no_secret).kind e p k (get_or from k no_secret) (get_or to k no_secret) tape
