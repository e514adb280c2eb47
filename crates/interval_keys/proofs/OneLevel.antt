-- One turn of the loop along alpha, and of the loop along x.
use Rattle.std.proofs.Common.{◌≡◌, ℕ, ◌+◌, Bool, List, [], ◌∷◌, ◌++◌, get_or, length, sym, ap, ap₂, ◌∙◌, add-one}
use Rattle.std.proofs.Math.ListN.{get_or-map}
use Rattle.spl_words.specs.declared.provider.Provider.{Provider}
use Rattle.spl_words.specs.declared.provider.Provider.TheVariants.{Zero, One}
use Rattle.spl_words.specs.Words.{plus}
use Rattle.spl_words.specs.Secrets.{Secret}
use Rattle.seed_expansion.specs.declared.nodes.Block.{Block}
use Rattle.seed_expansion.specs.declared.nodes.Node.{Node}
use Rattle.seed_expansion.specs.Expanders.{Meaning}
use Rattle.seed_expansion.specs.Walk.{child, correction_of, no_correction, node, path, place, side, word_at}
use Rattle.seed_expansion.specs.Leaves.{leaf_share}
use Rattle.interval_keys.specs.declared.keys.ThresholdKey.{ThresholdKey}
use Rattle.interval_keys.specs.declared.keys.ThresholdLevel.{ThresholdLevel}
use Rattle.interval_keys.specs.Thresholds.{corrections_in, level_between, level_of, level_word_at, levels, no_level, terms}
use Rattle.interval_keys.proofs.ThresholdLaw.{levels-more}

-- what a turn along alpha reads at level i
pub record Turn (e : Meaning) (tree : ℕ) (s : Secret) (roots : ℕ × ℕ) (i : ℕ) (zero one : Node) (d : Bool) (b0 b1 : Block) (row : ThresholdLevel) : Type 0 where
  pub zero_is : zero ≡ (path e tree s roots i).0
  pub one_is : one ≡ (path e tree s roots i).1
  pub side_is : d ≡ side s.depth s.alpha i
  pub b0_is : b0 ≡ e.block (place tree Zero s.depth s.alpha i) zero.seed
  pub b1_is : b1 ≡ e.block (place tree One s.depth s.alpha i) one.seed
  pub row_is : row ≡ level_between d s.beta zero.bit one.bit b0 b1

module _ {e : Meaning} {tree : ℕ} {s : Secret} {roots : ℕ × ℕ} {i : ℕ} {zero one : Node} {d : Bool} {b0 b1 : Block} {row : ThresholdLevel} (turn : Turn e tree s roots i zero one d b0 b1 row) where
  expanded_zero : b0 ≡ e.block (place tree Zero s.depth s.alpha i) (path e tree s roots i).0.seed
  expanded_zero = turn.b0_is ∙ ap (λ m. e.block (place tree Zero s.depth s.alpha i) m.seed) turn.zero_is

  expanded_one : b1 ≡ e.block (place tree One s.depth s.alpha i) (path e tree s roots i).1.seed
  expanded_one = turn.b1_is ∙ ap (λ m. e.block (place tree One s.depth s.alpha i) m.seed) turn.one_is

  made_row : row ≡ level_of e tree s i (path e tree s roots i)
  unfolding level_of
  made_row =
      turn.row_is
      ∙ ap (λ k. level_between k s.beta zero.bit one.bit b0 b1) turn.side_is
      ∙ ap (λ m. level_between (side s.depth s.alpha i) s.beta m.bit one.bit b0 b1) turn.zero_is
      ∙ ap (λ m. level_between (side s.depth s.alpha i) s.beta (path e tree s roots i).0.bit m.bit b0 b1) turn.one_is
      ∙ ap₂ (level_between (side s.depth s.alpha i) s.beta (path e tree s roots i).0.bit (path e tree s roots i).1.bit) expanded_zero expanded_one

  corrected : row.correction ≡ correction_of e tree s i (path e tree s roots i)
  unfolding level_of level_between correction_of
  corrected = ap (λ v. v.correction) made_row

  pub zero_turns : child d zero.bit b0 row.correction ≡ (path e tree s roots (i + 1)).0
  unfolding path
  zero_turns =
      ap (λ k. child k zero.bit b0 row.correction) turn.side_is
      ∙ ap (λ m. child (side s.depth s.alpha i) m.bit b0 row.correction) turn.zero_is
      ∙ ap₂ (child (side s.depth s.alpha i) (path e tree s roots i).0.bit) expanded_zero corrected
      ∙ sym (ap (λ k. (path e tree s roots k).0) (add-one i))

  pub one_turns : child d one.bit b1 row.correction ≡ (path e tree s roots (i + 1)).1
  unfolding path
  one_turns =
      ap (λ k. child k one.bit b1 row.correction) turn.side_is
      ∙ ap (λ m. child (side s.depth s.alpha i) m.bit b1 row.correction) turn.one_is
      ∙ ap₂ (child (side s.depth s.alpha i) (path e tree s roots i).1.bit) expanded_one corrected
      ∙ sym (ap (λ k. (path e tree s roots k).1) (add-one i))

  pub rows_grow : {rows : List ThresholdLevel} → rows ≡ levels e tree s roots i → rows ++ row ∷ [] ≡ levels e tree s roots (i + 1)
  rows_grow {rows} h = ap₂ (λ (rs : List ThresholdLevel) (r : ThresholdLevel). rs ++ r ∷ []) h made_row ∙ sym (levels-more e tree s roots i)

-- what a turn along x reads at level i
pub record Read (e : Meaning) (p : Provider) (tree : ℕ) (key : ThresholdKey) (x i depth : ℕ) (m : Node) (d : Bool) (b : Block) (row : ThresholdLevel) : Type 0 where
  pub depth_is : depth ≡ length key.levels
  pub node_is : m ≡ node e p tree depth key.root (corrections_in key.levels) x i
  pub side_is : d ≡ side depth x i
  pub block_is : b ≡ e.block (place tree p depth x i) m.seed
  pub row_is : row ≡ get_or key.levels i no_level

module _ {e : Meaning} {p : Provider} {tree : ℕ} {key : ThresholdKey} {x i depth : ℕ} {m : Node} {d : Bool} {b : Block} {row : ThresholdLevel} (read : Read e p tree key x i depth m d b row) where
  reached : ℕ → Node
  reached k = node e p tree k key.root (corrections_in key.levels) x i

  expanded : b ≡ e.block (place tree p depth x i) (reached depth).seed
  unfolding reached
  expanded = read.block_is ∙ ap (λ n. e.block (place tree p depth x i) n.seed) read.node_is

  read_correction : row.correction ≡ get_or (corrections_in key.levels) i no_correction
  read_correction = ap (λ v. v.correction) read.row_is ∙ sym (get_or-map (λ v. v.correction) key.levels i no_level)

  pub node_turns : child d m.bit b row.correction ≡ node e p tree depth key.root (corrections_in key.levels) x (i + 1)
  unfolding node reached
  node_turns =
      ap (λ k. child k m.bit b row.correction) read.side_is
      ∙ ap (λ n. child (side depth x i) n.bit b row.correction) read.node_is
      ∙ ap₂ (child (side depth x i) (reached depth).bit) expanded read_correction
      ∙ sym (ap (node e p tree depth key.root (corrections_in key.levels) x) (add-one i))

  pub terms_turn : {sum : ℕ} → sum ≡ terms e p tree key x i → plus sum (leaf_share p m.bit (word_at d b) (level_word_at d row)) ≡ terms e p tree key x (i + 1)
  unfolding terms reached
  terms_turn {sum} h =
      let word : Bool → Block → ThresholdLevel → Bool → ℕ = λ t k r a. leaf_share p t (word_at a k) (level_word_at a r) in
      ap (λ n. plus n (word m.bit b row d)) h
      ∙ ap (plus (terms e p tree key x i))
      (ap (word m.bit b row) read.side_is
      ∙ ap (λ n. word n.bit b row (side depth x i)) read.node_is
      ∙ ap (λ k. word (reached depth).bit k row (side depth x i)) expanded
      ∙ ap (λ r. word (reached depth).bit (e.block (place tree p depth x i) (reached depth).seed) r (side depth x i)) read.row_is
      ∙ ap (λ k. word (reached k).bit (e.block (place tree p k x i) (reached k).seed) (get_or key.levels i no_level) (side k x i)) read.depth_is)
      ∙ sym (ap (terms e p tree key x) (add-one i))
