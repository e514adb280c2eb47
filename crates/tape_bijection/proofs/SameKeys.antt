-- Provider p has one key of a tree under the first secret and a tape, and under the second secret and the mapped tape.
use Rattle.std.proofs.Common.{◌≡◌, ℕ, ◌<◌, ◌≤◌, ◌^◌, Bool, true, false, not, refl, sym, ap, ap₂, ◌∙◌, arith}
use Rattle.spl_words.specs.declared.provider.Provider.{Provider}
use Rattle.spl_words.specs.declared.provider.Provider.TheVariants.{Zero, One}
use Rattle.spl_words.specs.declared.secret.TreeKind.{TreeKind}
use Rattle.spl_words.specs.declared.secret.TreeKind.TheVariants.{Point, Threshold}
use Rattle.seed_expansion.specs.declared.nodes.Node.{Node}
use Rattle.seed_expansion.specs.declared.nodes.Block.{Block}
use Rattle.seed_expansion.specs.declared.nodes.Correction.{Correction}
use Rattle.spl_words.specs.Secrets.{Secret}
use Rattle.seed_expansion.specs.Expanders.{Meaning, IsTape}
use Rattle.seed_expansion.specs.Leaves.{last_of, last_word}
use Rattle.seed_expansion.specs.Walk.{correction, correction_of, path, place, side, prefix, word_at}
use Rattle.interval_keys.specs.Thresholds.{level_between, level_of, target, level_word_at}
use Rattle.tape_bijection.specs.Mapped.{mapped}
use Rattle.tape_bijection.specs.Moves.{moved, moved_word, moved_level_word, moved_block, moved_leaf, kept_bit}
use Rattle.seed_expansion.proofs.Walk.{path_bits}
use Rattle.interval_keys.proofs.ThresholdLaw.{level_word-is}
use Rattle.tape_bijection.proofs.Related.{Related, any_correction, bits_kept, correction_back, correction_comm, no_nodes, own_bit, word_back_zero, word_back_one}
use Rattle.tape_bijection.proofs.MappedAt.{own_block, own_leaf, moved_place, moved_leaf_place, mapped_is_tape}

-- both bits, from provider p's own
abbrev pub zero_bit : Provider → Bool → Bool
zero_bit Zero t = t
zero_bit One t = not t

abbrev pub one_bit : Provider → Bool → Bool
one_bit Zero t = not t
one_bit One t = t

not_twice : (a b : Bool) → a ≡ not b → b ≡ not a
not_twice true false h = refl
not_twice false true h = refl
not_twice true true h = cc
not_twice false false h = cc

module _ (e : Meaning) (tree : ℕ) (s : Secret) (roots : ℕ × ℕ) where
  pub zero_bit-is : (p : Provider) (i : ℕ) (t : Bool) → own_bit p (path e tree s roots i) ≡ t → (path e tree s roots i).0.bit ≡ zero_bit p t
  zero_bit-is Zero i t h = h
  zero_bit-is One i t h = not_twice _ _ (path_bits e tree s roots i) ∙ ap not h

  pub one_bit-is : (p : Provider) (i : ℕ) (t : Bool) → own_bit p (path e tree s roots i) ≡ t → (path e tree s roots i).1.bit ≡ one_bit p t
  one_bit-is Zero i t h = path_bits e tree s roots i ∙ ap not h
  one_bit-is One i t h = h

small : (goal : ℕ) (t0 t1 : Bool) (w0 w1 : ℕ) → last_word goal t0 t1 w0 w1 < 2 ^ 64
unfolding last_word
small goal t0 t1 w0 w1 = omega arith

-- `sort` is the kind that both secrets name; of what is made here only `kind` tells the words apart
module _ (kind : TreeKind) (e : Meaning) (tape : IsTape e) (p : Provider) (tree : ℕ) (sort : TreeKind) (depth alpha beta alpha2 beta2 : ℕ) where
  abbrev pub first : Secret
  first = record { kind = sort; depth = depth; alpha = alpha; beta = beta }

  abbrev pub second : Secret
  second = record { kind = sort; depth = depth; alpha = alpha2; beta = beta2 }

  moved_correction : (r : Provider) (i : ℕ) → i < depth → correction_of e tree first i no_nodes ≡ correction_of (mapped kind e r tree first second) tree second i no_nodes
  unfolding correction_of level_of level_between moved_block
  moved_correction Zero i h =
      let keep2 = side depth alpha2 i in
      let row = level_of e tree first i (path e tree first (0, 0) i) in
      let q = e.block (place tree Zero depth alpha2 i) 0 in
      let b = e.block (place tree One depth alpha i) 0 in
      any_correction e tape tree first i no_nodes (path e tree first (0, 0) i)
      ∙ sym (ap₂ (correction keep2) (own_block kind e Zero tree first second depth tree i (prefix depth alpha2 i) 0) (moved_place kind e Zero tree first second depth i 0 h)
      ∙ correction_back (side depth alpha i) keep2 row.correction b q (λ d. moved_level_word kind Zero (kept_bit e Zero tree first second i) (target keep2 beta2 d) row b q d))
  moved_correction One i h =
      let keep2 = side depth alpha2 i in
      let row = level_of e tree first i (path e tree first (0, 0) i) in
      let q = e.block (place tree One depth alpha2 i) 0 in
      let b = e.block (place tree Zero depth alpha i) 0 in
      let words : Bool → ℕ = λ d. moved_level_word kind One (kept_bit e One tree first second i) (target keep2 beta2 d) row b q d in
      any_correction e tape tree first i no_nodes (path e tree first (0, 0) i)
      ∙ sym (ap₂ (correction keep2) (moved_place kind e One tree first second depth i 0 h) (own_block kind e One tree first second depth tree i (prefix depth alpha2 i) 0)
      ∙ correction_comm keep2 (moved (side depth alpha i) keep2 row.correction b q words) q
      ∙ correction_back (side depth alpha i) keep2 row.correction b q words)

  pub related : Related e (mapped kind e p tree first second) p tree first second
  related = record {
    blocks = λ i pre sd. sym (own_block kind e p tree first second depth tree i pre sd);
    leaves = λ i pre sd. sym (own_leaf kind e p tree first second tree i pre sd);
    depths = refl;
    same_corrections = moved_correction p;
  }

  -- ---- the words

  -- the bits of a path don't hang on the roots
  same_tape : Related e e p tree first first
  same_tape = record { blocks = λ i pre sd. refl; leaves = λ i pre sd. refl; depths = refl; same_corrections = λ i h. refl }

  pub any_roots : (roots : ℕ × ℕ) (i : ℕ) → i ≤ depth → own_bit p (path e tree first roots i) ≡ own_bit p (path e tree first (0, 0) i)
  any_roots roots i h = bits_kept e e tape tape p tree first first same_tape roots i h ∙ sym (bits_kept e e tape tape p tree first first same_tape (0, 0) i h)

  -- p's bit on the second path, by the keys of the mapped tape
  pub kept : (roots : ℕ × ℕ) (i : ℕ) → i ≤ depth → own_bit p (path (mapped kind e p tree first second) tree second roots i) ≡ kept_bit e p tree first second i
  kept roots i h = bits_kept e (mapped kind e p tree first second) tape (mapped_is_tape kind e p tree first second tape) p tree first second related roots i h

pub word_at-moved : (d keep keep2 : Bool) (c : Correction) (b q : Block) (words : Bool → ℕ) → word_at d (moved keep keep2 c b q words) ≡ words d
unfolding moved
word_at-moved false keep keep2 c b q words = refl
word_at-moved true keep keep2 c b q words = refl

module _ (e : Meaning) (tape : IsTape e) (tree : ℕ) (s : Secret) where
  -- the words of a level, from both bits
  unfoldable pub level_word : ℕ → Bool → Bool → Bool → ℕ
  level_word i d t0 t1 =
      last_word (target (side s.depth s.alpha i) s.beta d) t0 t1
      (word_at d (e.block (place tree Zero s.depth s.alpha i) 0))
      (word_at d (e.block (place tree One s.depth s.alpha i) 0))

  pub level_word-bits : (roots : ℕ × ℕ) (i : ℕ) (d t0 t1 : Bool) (n : Node × Node) → n.0.bit ≡ t0 → n.1.bit ≡ t1 → level_word_at d (level_of e tree s i n) ≡ level_word i d t0 t1
  unfolding level_word
  level_word-bits roots i d t0 t1 n a b =
      let goal = target (side s.depth s.alpha i) s.beta d in
      let w0 = word_at d (e.block (place tree Zero s.depth s.alpha i) n.0.seed) in
      let w1 = word_at d (e.block (place tree One s.depth s.alpha i) n.1.seed) in
      level_word-is e tree s roots d i n
      ∙ ap (λ t. last_word goal t n.1.bit w0 w1) a ∙ ap (λ t. last_word goal t0 t w0 w1) b
      ∙ ap₂ (last_word goal t0 t1) (ap (word_at d) (tape.blocks (place tree Zero s.depth s.alpha i) n.0.seed 0)) (ap (word_at d) (tape.blocks (place tree One s.depth s.alpha i) n.1.seed 0))

  unfoldable pub last_word_of : Bool → Bool → ℕ
  last_word_of t0 t1 =
      last_word s.beta t0 t1
      (e.leaf (place tree Zero s.depth s.alpha s.depth) 0)
      (e.leaf (place tree One s.depth s.alpha s.depth) 0)

  pub last-bits : (t0 t1 : Bool) (n : Node × Node) → n.0.bit ≡ t0 → n.1.bit ≡ t1 → last_of e tree s s.depth n ≡ last_word_of t0 t1
  unfolding last_of last_word_of
  last-bits t0 t1 n a b =
      let w0 = e.leaf (place tree Zero s.depth s.alpha s.depth) n.0.seed in
      let w1 = e.leaf (place tree One s.depth s.alpha s.depth) n.1.seed in
      ap (λ t. last_word s.beta t n.1.bit w0 w1) a ∙ ap (λ t. last_word s.beta t0 t w0 w1) b
      ∙ ap₂ (last_word s.beta t0 t1) (tape.leaves (place tree Zero s.depth s.alpha s.depth) n.0.seed 0) (tape.leaves (place tree One s.depth s.alpha s.depth) n.1.seed 0)

  level_word-small : (i : ℕ) (d t0 t1 : Bool) → level_word i d t0 t1 < 2 ^ 64
  unfolding level_word
  level_word-small i d t0 t1 = small _ t0 t1 _ _

  last_word_of-small : (t0 t1 : Bool) → last_word_of t0 t1 < 2 ^ 64
  unfolding last_word_of
  last_word_of-small t0 t1 = small _ t0 t1 _ _

module _ (e : Meaning) (tape : IsTape e) (tree : ℕ) (sort : TreeKind) (depth alpha beta alpha2 beta2 : ℕ) where
  abbrev pub one : Secret
  one = record { kind = sort; depth = depth; alpha = alpha; beta = beta }

  abbrev pub two : Secret
  two = record { kind = sort; depth = depth; alpha = alpha2; beta = beta2 }

  module _ (p : Provider) where
    -- the word of the first key
    unfoldable pub first_word : ℕ → Bool → ℕ
    first_word i d =
        let t = own_bit p (path e tree one (0, 0) i) in
        level_word e tape tree one i d (zero_bit p t) (one_bit p t)

    unfoldable pub first_last : ℕ
    first_last =
        let t = own_bit p (path e tree one (0, 0) depth) in
        last_word_of e tape tree one (zero_bit p t) (one_bit p t)

    pub first_word-is : (roots : ℕ × ℕ) (i : ℕ) (d : Bool) → i ≤ depth → level_word_at d (level_of e tree one i (path e tree one roots i)) ≡ first_word i d
    unfolding first_word
    first_word-is roots i d h =
        let t = own_bit p (path e tree one (0, 0) i) in
        level_word-bits e tape tree one roots i d (zero_bit p t) (one_bit p t) (path e tree one roots i)
        (zero_bit-is e tree one roots p i t (any_roots Point e tape p tree sort depth alpha beta alpha2 beta2 roots i h))
        (one_bit-is e tree one roots p i t (any_roots Point e tape p tree sort depth alpha beta alpha2 beta2 roots i h))

    pub first_last-is : (roots : ℕ × ℕ) → last_of e tree one one.depth (path e tree one roots depth) ≡ first_last
    unfolding first_last
    first_last-is roots =
        let t = own_bit p (path e tree one (0, 0) depth) in
        last-bits e tape tree one (zero_bit p t) (one_bit p t) (path e tree one roots depth)
        (zero_bit-is e tree one roots p depth t (any_roots Point e tape p tree sort depth alpha beta alpha2 beta2 roots depth (omega arith)))
        (one_bit-is e tree one roots p depth t (any_roots Point e tape p tree sort depth alpha beta alpha2 beta2 roots depth (omega arith)))

    pub first_word-small : (i : ℕ) (d : Bool) → first_word i d < 2 ^ 64
    unfolding first_word
    first_word-small i d = level_word-small e tape tree one i d _ _

    pub first_last-small : first_last < 2 ^ 64
    unfolding first_last
    first_last-small = last_word_of-small e tape tree one _ _

  -- the word of the second key over the mapped tape is that of the first
  pub mapped_word : (p : Provider) (i : ℕ) (d : Bool) → i < depth → level_word (mapped Threshold e p tree one two) (mapped_is_tape Threshold e p tree one two tape) tree two i d (zero_bit p (kept_bit e p tree one two i)) (one_bit p (kept_bit e p tree one two i)) ≡ first_word p i d
  unfolding level_word moved_block
  mapped_word Zero i d h =
      let t = kept_bit e Zero tree one two i in
      let keep2 = side depth alpha2 i in
      let goal = target keep2 beta2 d in
      let row = level_of e tree one i (path e tree one (0, 0) i) in
      let q = e.block (place tree Zero depth alpha2 i) 0 in
      let b = e.block (place tree One depth alpha i) 0 in
      ap₂ (last_word goal t (not t)) (ap (word_at d) (own_block Threshold e Zero tree one two depth tree i (prefix depth alpha2 i) 0))
      (ap (word_at d) (moved_place Threshold e Zero tree one two depth i 0 h)
      ∙ word_at-moved d (side depth alpha i) keep2 row.correction b q (λ k. moved_level_word Threshold Zero t (target keep2 beta2 k) row b q k)
      ∙ ap (λ v. moved_word Zero t (word_at d q) v goal) (first_word-is Zero (0, 0) i d (omega arith)))
      ∙ word_back_zero t (word_at d q) (first_word Zero i d) goal (first_word-small Zero i d)
  mapped_word One i d h =
      let t = kept_bit e One tree one two i in
      let keep2 = side depth alpha2 i in
      let goal = target keep2 beta2 d in
      let row = level_of e tree one i (path e tree one (0, 0) i) in
      let q = e.block (place tree One depth alpha2 i) 0 in
      let b = e.block (place tree Zero depth alpha i) 0 in
      ap₂ (last_word goal (not t) t)
      (ap (word_at d) (moved_place Threshold e One tree one two depth i 0 h)
      ∙ word_at-moved d (side depth alpha i) keep2 row.correction b q (λ k. moved_level_word Threshold One t (target keep2 beta2 k) row b q k)
      ∙ ap (λ v. moved_word One t (word_at d q) v goal) (first_word-is One (0, 0) i d (omega arith)))
      (ap (word_at d) (own_block Threshold e One tree one two depth tree i (prefix depth alpha2 i) 0))
      ∙ word_back_one t (word_at d q) (first_word One i d) goal (first_word-small One i d)

  pub mapped_last : (kind : TreeKind) (p : Provider) → last_word_of (mapped kind e p tree one two) (mapped_is_tape kind e p tree one two tape) tree two (zero_bit p (kept_bit e p tree one two depth)) (one_bit p (kept_bit e p tree one two depth)) ≡ first_last p
  unfolding last_word_of moved_leaf
  mapped_last kind Zero =
      let t = kept_bit e Zero tree one two depth in
      let w = e.leaf (place tree Zero depth alpha2 depth) 0 in
      ap₂ (last_word beta2 t (not t)) (own_leaf kind e Zero tree one two tree depth (prefix depth alpha2 depth) 0)
      (moved_leaf_place kind e Zero tree one two 0 ∙ ap (λ v. moved_word Zero t w v beta2) (first_last-is Zero (0, 0)))
      ∙ word_back_zero t w (first_last Zero) beta2 (first_last-small Zero)
  mapped_last kind One =
      let t = kept_bit e One tree one two depth in
      let w = e.leaf (place tree One depth alpha2 depth) 0 in
      ap₂ (last_word beta2 (not t) t)
      (moved_leaf_place kind e One tree one two 0 ∙ ap (λ v. moved_word One t w v beta2) (first_last-is One (0, 0)))
      (own_leaf kind e One tree one two tree depth (prefix depth alpha2 depth) 0)
      ∙ word_back_one t w (first_last One) beta2 (first_last-small One)
