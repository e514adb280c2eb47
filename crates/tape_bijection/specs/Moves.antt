-- What comes to the other provider's places: entries under which the kept provider's key stays the same.
use Rattle.std.specs.Prelude.{ℕ, ◌*◌, Bool, true, false, not, cond, bit_xor}
use Rattle.spl_words.specs.declared.provider.Provider.{Provider}
use Rattle.spl_words.specs.declared.provider.Provider.TheVariants.{Zero, One}
use Rattle.spl_words.specs.declared.secret.TreeKind.{TreeKind}
use Rattle.spl_words.specs.declared.secret.TreeKind.TheVariants.{Point, Threshold}
use Rattle.spl_words.specs.Words.{minus, other, plus, times}
use Rattle.spl_words.specs.Secrets.{Secret}
use Rattle.seed_expansion.specs.declared.nodes.Block.{Block}
use Rattle.seed_expansion.specs.declared.nodes.Correction.{Correction}
use Rattle.seed_expansion.specs.Expanders.{Meaning}
use Rattle.seed_expansion.specs.Walk.{bit_at, corrected_bit_at, corrections, differ, node, path, place, seed_at, side, word_at}
use Rattle.seed_expansion.specs.Leaves.{bit_word, last_of}
use Rattle.interval_keys.specs.declared.keys.ThresholdLevel.{ThresholdLevel}
use Rattle.interval_keys.specs.Thresholds.{level_of, level_word_at, target}

-- the bit of Zero minus that of One, where the kept provider has the bit t and the other one the opposite
abbrev pub sigma : Provider → Bool → ℕ
sigma Zero t = minus (2 * bit_word t) 1
sigma One t = minus 1 (2 * bit_word t)

-- the other provider's word, where the kept one has the bit t and the word w, the key has v, and the two terms have to add to `goal`
unfoldable pub moved_word : Provider → Bool → ℕ → ℕ → ℕ → ℕ
moved_word Zero t w v goal = minus (plus w (times (sigma Zero t) v)) goal
moved_word One t w v goal = minus (plus w goal) (times (sigma One t) v)

-- its seed on the side d: the seed that b has where the first path goes comes to where the second goes
abbrev pub moved_seed : Bool → Bool → Bool → Correction → Block → Block → ℕ
moved_seed keep keep2 d c b q = cond (differ d keep2) (bit_xor c.seed (seed_at d q)) (seed_at keep b)

-- its bit on the side d
abbrev pub moved_bit : Bool → Bool → Correction → Block → Bool
moved_bit keep2 d c q = differ (differ (corrected_bit_at d c) (bit_at d q)) (not (differ d keep2))

-- its block, from the sides that both paths take, the correction, its block b on the first path, the kept provider's block q on the second, and the words
unfoldable pub moved : Bool → Bool → Correction → Block → Block → (Bool → ℕ) → Block
moved keep keep2 c b q words = record {
  seed_l = moved_seed keep keep2 false c b q;
  bit_l = moved_bit keep2 false c q;
  word_l = words false;
  seed_r = moved_seed keep keep2 true c b q;
  bit_r = moved_bit keep2 true c q;
  word_r = words true;
}

-- its word on a side: in a point tree that of b, in a threshold tree one that makes the level's terms add to `goal`
abbrev pub moved_level_word : TreeKind → Provider → Bool → ℕ → ThresholdLevel → Block → Block → Bool → ℕ
moved_level_word Point p t goal row b q d = word_at d b
moved_level_word Threshold p t goal row b q d = moved_word p t (word_at d q) (level_word_at d row) goal

-- p is the kept provider, s the first secret of a tree and s2 the second
module _ (e : Meaning) (p : Provider) (tree : ℕ) (s s2 : Secret) where
  -- the bit of p after i bits of the second number, under its key of the first secret; on a tape all roots give it
  unfoldable pub kept_bit : ℕ → Bool
  kept_bit i = (node e p tree s.depth 0 (corrections e tree s (0, 0) s.depth) s2.alpha i).bit

  -- what comes to the other provider's leaf on the second path
  unfoldable pub moved_leaf : ℕ
  moved_leaf =
      moved_word p (kept_bit s.depth)
      (e.leaf (place tree p s.depth s2.alpha s.depth) 0)
      (last_of e tree s s.depth (path e tree s (0, 0) s.depth))
      s2.beta

module _ (kind : TreeKind) (e : Meaning) (p : Provider) (tree : ℕ) (s s2 : Secret) where
  -- and to its place of level i there, in a tree of this kind
  unfoldable pub moved_block : ℕ → Block
  moved_block i =
      let keep2 = side s.depth s2.alpha i in
      let row = level_of e tree s i (path e tree s (0, 0) i) in
      let b = e.block (place tree (other p) s.depth s.alpha i) 0 in
      let q = e.block (place tree p s.depth s2.alpha i) 0 in
      moved (side s.depth s.alpha i) keep2 row.correction b q (λ d. moved_level_word kind p (kept_bit e p tree s s2 i) (target keep2 s2.beta d) row b q d)
