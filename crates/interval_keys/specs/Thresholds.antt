-- Threshold keys: a tree whose levels have words of their own. Their shares, and what the two shares add to.
use Rattle.std.specs.Prelude.{◌≡◌, ℕ, zero, suc, ◌^◌, ◌<◌, Bool, true, false, not, cond, ◌&&◌, List, map, length, get_or}
use Rattle.std.specs.List.{range_with_len}
use Rattle.spl_words.specs.declared.provider.Provider.{Provider}
use Rattle.spl_words.specs.declared.provider.Provider.TheVariants.{Zero, One}
use Rattle.spl_words.specs.Words.{plus}
use Rattle.spl_words.specs.Secrets.{Secret, threshold_value}
use Rattle.seed_expansion.specs.declared.nodes.Block.{Block}
use Rattle.seed_expansion.specs.declared.nodes.Correction.{Correction}
use Rattle.seed_expansion.specs.declared.nodes.Node.{Node}
use Rattle.seed_expansion.specs.Expanders.{Meaning}
use Rattle.seed_expansion.specs.Walk.{correction, no_correction, node, path, place, side, word_at}
use Rattle.seed_expansion.specs.Leaves.{last_of, last_word, leaf_share}
use Rattle.interval_keys.specs.declared.keys.ThresholdKey.{ThresholdKey}
use Rattle.interval_keys.specs.declared.keys.ThresholdLevel.{ThresholdLevel}

-- a level's word on a side
abbrev pub level_word_at : Bool → ThresholdLevel → ℕ
level_word_at false v = v.word_l
level_word_at true v = v.word_r

-- what stands past the end of a list of levels
abbrev pub no_level : ThresholdLevel
no_level = record { correction = no_correction; word_l = 0; word_r = 0 }

-- what the two terms of a level add to on the side d: beta where alpha goes right and d is left, else 0
abbrev pub target : Bool → ℕ → Bool → ℕ
target keep beta d = cond (keep && not d) beta 0

-- the level of a key where alpha goes to the side `keep`, from the bits and the blocks of both providers there
unfoldable pub level_between : Bool → ℕ → Bool → Bool → Block → Block → ThresholdLevel
level_between keep beta t0 t1 b0 b1 = record {
  correction = correction keep b0 b1;
  word_l = last_word (target keep beta false) t0 t1 b0.word_l b1.word_l;
  word_r = last_word (target keep beta true) t0 t1 b0.word_r b1.word_r;
}

-- level i of the keys of a secret, from the nodes of both providers there
unfoldable pub level_of : Meaning → ℕ → Secret → ℕ → Node × Node → ThresholdLevel
level_of e tree s i n =
    level_between (side s.depth s.alpha i) s.beta n.0.bit n.1.bit
    (e.block (place tree Zero s.depth s.alpha i) n.0.seed)
    (e.block (place tree One s.depth s.alpha i) n.1.seed)

-- the first n levels
unfoldable pub levels : Meaning → ℕ → Secret → ℕ × ℕ → ℕ → List ThresholdLevel
levels e tree s roots n = map (λ i. level_of e tree s i (path e tree s roots i)) (range_with_len 0 n)

-- the two keys of a threshold tree: each its own root, both the levels along alpha and the last word there
unfoldable pub threshold_keys : Meaning → ℕ → Secret → ℕ × ℕ → ThresholdKey × ThresholdKey
threshold_keys e tree s roots =
    let rows = levels e tree s roots s.depth in
    let last = last_of e tree s s.depth (path e tree s roots s.depth) in (
      record { root = roots.0; levels = rows; last = last },
      record { root = roots.1; levels = rows; last = last },
    )

-- the corrections of levels
abbrev pub corrections_in : List ThresholdLevel → List Correction
corrections_in rows = map (λ v. v.correction) rows

-- the sum of provider p's terms of the first i levels along x: at each level the share on the side that x takes
unfoldable pub terms : Meaning → Provider → ℕ → ThresholdKey → ℕ → ℕ → ℕ
terms e p tree key x zero = 0
terms e p tree key x (suc i) =
    let depth = length key.levels in
    let n = node e p tree depth key.root (corrections_in key.levels) x i in
    let d = side depth x i in
    plus (terms e p tree key x i)
    (leaf_share p n.bit (word_at d (e.block (place tree p depth x i) n.seed)) (level_word_at d (get_or key.levels i no_level)))

-- provider p's share at x: its terms along x, and the share of the leaf that x leads to
unfoldable pub threshold_share : Meaning → Provider → ℕ → ThresholdKey → ℕ → ℕ
threshold_share e p tree key x =
    let depth = length key.levels in
    let leaf = node e p tree depth key.root (corrections_in key.levels) x depth in
    plus (terms e p tree key x depth) (leaf_share p leaf.bit (e.leaf (place tree p depth x depth) leaf.seed) key.last)

-- for each secret, all roots and each x of the secret's bits, the two shares add to beta up to alpha and to 0 above it
abbrev pub ThresholdSharesAdd : Meaning → Type 0
ThresholdSharesAdd e =
    (tree : ℕ) (s : Secret) (roots : ℕ × ℕ) (x : ℕ) → s.alpha < 2 ^ s.depth → s.beta < 2 ^ 64 → x < 2 ^ s.depth
    → plus (threshold_share e Zero tree (threshold_keys e tree s roots).0 x) (threshold_share e One tree (threshold_keys e tree s roots).1 x) ≡ threshold_value s.alpha s.beta x
