-- What is made of one tree reads that tree's places alone.
use Rattle.std.proofs.Common.{◌≡◌, ℕ, zero, suc, List, Bool, get_or, map, refl, ap, ap₂, ◌∙◌}
use Rattle.std.proofs.Math.Path.{fun_ext}
use Rattle.std.specs.List.{range_with_len}
use Rattle.spl_words.specs.declared.provider.Provider.{Provider}
use Rattle.spl_words.specs.declared.provider.Provider.TheVariants.{Zero, One}
use Rattle.spl_words.specs.declared.secret.TreeKind.{TreeKind}
use Rattle.spl_words.specs.declared.secret.TreeKind.TheVariants.{Point, Threshold}
use Rattle.seed_expansion.specs.declared.nodes.Block.{Block}
use Rattle.seed_expansion.specs.declared.nodes.Place.{Place}
use Rattle.seed_expansion.specs.declared.nodes.Correction.{Correction}
use Rattle.interval_keys.specs.declared.keys.ThresholdLevel.{ThresholdLevel}
use Rattle.point_keys.specs.declared.keys.PointKey.{PointKey}
use Rattle.interval_keys.specs.declared.keys.ThresholdKey.{ThresholdKey}
use Rattle.seed_expansion.specs.declared.nodes.Node.{Node}
use Rattle.key_frames.specs.declared.keys.Key.TheVariants as key_variants
use Rattle.spl_words.specs.Secrets.{Secret}
use Rattle.spl_words.specs.Words.{other}
use Rattle.seed_expansion.specs.Expanders.{Meaning}
use Rattle.seed_expansion.specs.Leaves.{last_of, last_word}
use Rattle.seed_expansion.specs.Walk.{no_correction, child, correction, correction_of, corrections, node, path, place, prefix, side}
use Rattle.point_keys.specs.Points.{point_keys}
use Rattle.interval_keys.specs.Thresholds.{level_of, levels, target, level_between, threshold_keys}
use Rattle.key_frames.specs.Trees.{key_of}
use Rattle.tape_bijection.specs.Mapped.{along, exchanged, is_block_place, is_leaf_place, mapped, mapped_blocks, mapped_leaves, on_path}
use Rattle.tape_bijection.specs.Moves.{kept_bit, moved, moved_block, moved_leaf, moved_level_word, moved_word}

-- two expanders give the same in one tree
pub record Agree (e e2 : Meaning) (tree : ℕ) : Type 0 where
  pub blocks : (p : Provider) (i pre sd : ℕ) → e.block (record { tree = tree; provider = p; level = i; prefix = pre }) sd ≡ e2.block (record { tree = tree; provider = p; level = i; prefix = pre }) sd
  pub leaves : (p : Provider) (i pre sd : ℕ) → e.leaf (record { tree = tree; provider = p; level = i; prefix = pre }) sd ≡ e2.leaf (record { tree = tree; provider = p; level = i; prefix = pre }) sd

module _ (e e2 : Meaning) (tree : ℕ) (agree : Agree e e2 tree) (s : Secret) where
  correction_agrees : (i : ℕ) (n : Node × Node) → correction_of e tree s i n ≡ correction_of e2 tree s i n
  unfolding correction_of
  correction_agrees i n =
      let pre = prefix s.depth s.alpha i in
      ap₂ (correction (side s.depth s.alpha i)) (agree.blocks Zero i pre n.0.seed) (agree.blocks One i pre n.1.seed)

  level_agrees : (i : ℕ) (n : Node × Node) → level_of e tree s i n ≡ level_of e2 tree s i n
  unfolding level_of
  level_agrees i n =
      let pre = prefix s.depth s.alpha i in
      ap₂ (level_between (side s.depth s.alpha i) s.beta n.0.bit n.1.bit) (agree.blocks Zero i pre n.0.seed) (agree.blocks One i pre n.1.seed)

  last_agrees : (n : Node × Node) → last_of e tree s s.depth n ≡ last_of e2 tree s s.depth n
  unfolding last_of
  last_agrees n =
      let pre = prefix s.depth s.alpha s.depth in
      ap₂ (last_word s.beta n.0.bit n.1.bit) (agree.leaves Zero s.depth pre n.0.seed) (agree.leaves One s.depth pre n.1.seed)

  module _ (roots : ℕ × ℕ) where
    path_agrees : (i : ℕ) → path e tree s roots i ≡ path e2 tree s roots i
    unfolding path
    path_agrees zero = refl
    path_agrees (suc i) =
        let pre = prefix s.depth s.alpha i in
        let d = side s.depth s.alpha i in
        let n = path e tree s roots i in
        let make : Node × Node → Block → Block → Correction → Node × Node = λ k b0 b1 c. (child d k.0.bit b0 c, child d k.1.bit b1 c) in
        let b0 = e.block (place tree Zero s.depth s.alpha i) n.0.seed in
        let b1 = e.block (place tree One s.depth s.alpha i) n.1.seed in
        let c = correction_of e tree s i n in
        ap (λ b. make n b b1 c) (agree.blocks Zero i pre n.0.seed)
        ∙ ap (λ b. make n (e2.block (place tree Zero s.depth s.alpha i) n.0.seed) b c) (agree.blocks One i pre n.1.seed)
        ∙ ap (make n (e2.block (place tree Zero s.depth s.alpha i) n.0.seed) (e2.block (place tree One s.depth s.alpha i) n.1.seed)) (correction_agrees i n)
        ∙ ap (λ k. make k (e2.block (place tree Zero s.depth s.alpha i) k.0.seed) (e2.block (place tree One s.depth s.alpha i) k.1.seed) (correction_of e2 tree s i k)) (path_agrees i)

    corrections_agree : (n : ℕ) → corrections e tree s roots n ≡ corrections e2 tree s roots n
    unfolding corrections
    corrections_agree n = ap (λ (f : ℕ → Correction). map f (range_with_len 0 n)) (fun_ext (λ i. ap (correction_of e tree s i) (path_agrees i) ∙ correction_agrees i (path e2 tree s roots i)))

    levels_agree : (n : ℕ) → levels e tree s roots n ≡ levels e2 tree s roots n
    unfolding levels
    levels_agree n = ap (λ (f : ℕ → ThresholdLevel). map f (range_with_len 0 n)) (fun_ext (λ i. ap (level_of e tree s i) (path_agrees i) ∙ level_agrees i (path e2 tree s roots i)))

    last_of_path : (i : ℕ) → last_of e tree s s.depth (path e tree s roots i) ≡ last_of e2 tree s s.depth (path e2 tree s roots i)
    last_of_path i = ap (last_of e tree s s.depth) (path_agrees i) ∙ last_agrees (path e2 tree s roots i)

    point_keys_agree : point_keys e tree s roots ≡ point_keys e2 tree s roots
    unfolding point_keys
    point_keys_agree =
        let make : List Correction → ℕ → PointKey × PointKey = λ rows k. (record { root = roots.0; levels = rows; last = k }, record { root = roots.1; levels = rows; last = k }) in
        ap₂ make (corrections_agree s.depth) (last_of_path s.depth)

    threshold_keys_agree : threshold_keys e tree s roots ≡ threshold_keys e2 tree s roots
    unfolding threshold_keys
    threshold_keys_agree =
        let make : List ThresholdLevel → ℕ → ThresholdKey × ThresholdKey = λ rows k. (record { root = roots.0; levels = rows; last = k }, record { root = roots.1; levels = rows; last = k }) in
        ap₂ make (levels_agree s.depth) (last_of_path s.depth)

    pub keys_agree : (kind : TreeKind) (p : Provider) → key_of kind e p tree s roots ≡ key_of kind e2 p tree s roots
    keys_agree Point Zero = ap (λ k. key_variants.Point k.0) point_keys_agree
    keys_agree Point One = ap (λ k. key_variants.Point k.1) point_keys_agree
    keys_agree Threshold Zero = ap (λ k. key_variants.Threshold k.0) threshold_keys_agree
    keys_agree Threshold One = ap (λ k. key_variants.Threshold k.1) threshold_keys_agree

module _ (e e2 : Meaning) (tree : ℕ) (agree : Agree e e2 tree) (kind : TreeKind) (p : Provider) (s s2 : Secret) where
  node_agrees : (depth : ℕ) (cs : List Correction) (x i : ℕ) → node e p tree depth 0 cs x i ≡ node e2 p tree depth 0 cs x i
  unfolding node
  node_agrees depth cs x zero = refl
  node_agrees depth cs x (suc i) =
      let n = node e p tree depth 0 cs x i in
      let c = get_or cs i no_correction in
      ap (λ b. child (side depth x i) n.bit b c) (agree.blocks p i (prefix depth x i) n.seed)
      ∙ ap (λ k. child (side depth x i) k.bit (e2.block (place tree p depth x i) k.seed) c) (node_agrees depth cs x i)

  kept_bit_agrees : (i : ℕ) → kept_bit e p tree s s2 i ≡ kept_bit e2 p tree s s2 i
  unfolding kept_bit
  kept_bit_agrees i =
      ap (λ n. n.bit) (node_agrees s.depth (corrections e tree s (0, 0) s.depth) s2.alpha i)
      ∙ ap (λ cs. (node e2 p tree s.depth 0 cs s2.alpha i).bit) (corrections_agree e e2 tree agree s (0, 0) s.depth)

  moved_block_agrees : (i : ℕ) → moved_block kind e p tree s s2 i ≡ moved_block kind e2 p tree s s2 i
  unfolding moved_block
  moved_block_agrees i =
      let keep = side s.depth s.alpha i in
      let keep2 = side s.depth s2.alpha i in
      let make : ThresholdLevel → Block → Block → Bool → Block = λ row b q t. moved keep keep2 row.correction b q (λ d. moved_level_word kind p t (target keep2 s2.beta d) row b q d) in
      let row = level_of e tree s i (path e tree s (0, 0) i) in
      let b = e.block (place tree (other p) s.depth s.alpha i) 0 in
      let q = e.block (place tree p s.depth s2.alpha i) 0 in
      let t = kept_bit e p tree s s2 i in
      let row2 = level_of e2 tree s i (path e2 tree s (0, 0) i) in
      let b2 = e2.block (place tree (other p) s.depth s.alpha i) 0 in
      let q2 = e2.block (place tree p s.depth s2.alpha i) 0 in
      ap (λ r. make r b q t) (ap (level_of e tree s i) (path_agrees e e2 tree agree s (0, 0) i) ∙ level_agrees e e2 tree agree s i (path e2 tree s (0, 0) i))
      ∙ ap (λ k. make row2 k q t) (agree.blocks (other p) i (prefix s.depth s.alpha i) 0)
      ∙ ap (λ k. make row2 b2 k t) (agree.blocks p i (prefix s.depth s2.alpha i) 0)
      ∙ ap (make row2 b2 q2) (kept_bit_agrees i)

  moved_leaf_agrees : moved_leaf e p tree s s2 ≡ moved_leaf e2 p tree s s2
  unfolding moved_leaf
  moved_leaf_agrees =
      let w = e.leaf (place tree p s.depth s2.alpha s.depth) 0 in
      let last = last_of e tree s s.depth (path e tree s (0, 0) s.depth) in
      ap (λ t. moved_word p t w last s2.beta) (kept_bit_agrees s.depth)
      ∙ ap (λ k. moved_word p (kept_bit e2 p tree s s2 s.depth) k last s2.beta) (agree.leaves p s.depth (prefix s.depth s2.alpha s.depth) 0)
      ∙ ap (λ k. moved_word p (kept_bit e2 p tree s s2 s.depth) (e2.leaf (place tree p s.depth s2.alpha s.depth) 0) k s2.beta) (last_of_path e e2 tree agree s (0, 0) s.depth)

  pub mapped_agree : Agree (mapped kind e p tree s s2) (mapped kind e2 p tree s s2) tree
  unfolding mapped_blocks mapped_leaves
  mapped_agree = record {
    blocks = λ r i pre sd.
        let q : Place = record { tree = tree; provider = r; level = i; prefix = pre } in
        let make : Block → Block → Block → Block = exchanged (is_block_place tree (other p) s.depth q) (on_path s.depth s2.alpha q) (on_path s.depth s.alpha q) in
        ap (λ x. make x (e.block (along s.depth s2.alpha q) 0) (e.block q sd)) (moved_block_agrees i)
        ∙ ap₂ (make (moved_block kind e2 p tree s s2 i)) (agree.blocks r i (prefix s.depth s2.alpha i) 0) (agree.blocks r i pre sd);
    leaves = λ r i pre sd.
        let q : Place = record { tree = tree; provider = r; level = i; prefix = pre } in
        let make : ℕ → ℕ → ℕ → ℕ = exchanged (is_leaf_place tree (other p) s.depth q) (on_path s.depth s2.alpha q) (on_path s.depth s.alpha q) in
        ap (λ x. make x (e.leaf (along s.depth s2.alpha q) 0) (e.leaf q sd)) moved_leaf_agrees
        ∙ ap₂ (make (moved_leaf e2 p tree s s2)) (agree.leaves r i (prefix s.depth s2.alpha i) 0) (agree.leaves r i pre sd);
  }
