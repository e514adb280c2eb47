-- The map of a tree, there and back, gives the tape.
use Rattle.std.proofs.Common.{◌≡◌, ℕ, ◌≤◌, ◌<◌, Bool, true, false, cond, eqb, ltb, refl, sym, ap, ap₂, ◌∙◌, arith, eq-eqb}
use Rattle.std.proofs.lemmas.Bool.{eqb-true}
use Rattle.std.proofs.lemmas.Bool.Decides.{nat_tests}
use Rattle.spl_words.specs.declared.provider.Provider.{Provider}
use Rattle.spl_words.specs.declared.provider.Provider.TheVariants.{Zero, One}
use Rattle.spl_words.specs.declared.secret.TreeKind.{TreeKind}
use Rattle.spl_words.specs.declared.secret.TreeKind.TheVariants.{Point, Threshold}
use Rattle.seed_expansion.specs.declared.nodes.Place.{Place}
use Rattle.spl_words.specs.Secrets.{Secret}
use Rattle.spl_words.specs.Words.{other}
use Rattle.seed_expansion.specs.Expanders.{Meaning, IsTape}
use Rattle.seed_expansion.specs.Tapes.{HasWords}
use Rattle.seed_expansion.specs.Walk.{correction, correction_of, path, word_at, place, prefix, side}
use Rattle.interval_keys.specs.Thresholds.{level_of, level_word_at, target}
use Rattle.tape_bijection.specs.Mapped.{along, exchanged, is_block_place, is_leaf_place, mapped, mapped_blocks, mapped_leaves, on_path, same_provider}
use Rattle.tape_bijection.specs.Moves.{kept_bit, moved, moved_block, moved_leaf, moved_level_word, moved_word}
use Rattle.tape_bijection.proofs.Related.{Related, bits_kept, correction_comm, moved_back, no_nodes, own_bit, word_forth_zero, word_forth_one}
use Rattle.tape_bijection.proofs.MappedAt.{each, mapped_is_tape, moved_place, own_block, own_leaf, same_provider-true}
use Rattle.tape_bijection.proofs.SameKeys.{zero_bit, one_bit, zero_bit-is, one_bit-is, related, level_word-bits, last-bits, word_at-moved, level_word, last_word_of}
use Rattle.tape_bijection.proofs.TreeKeys.{correction_same, level_same, last_same, level_correction}

-- an exchange and the exchange back
exchanged_twice : {A : Type 0} (here first second cross same : Bool) (to back theirs own x : A)
    → (here ≡ true → first ≡ true → back ≡ own) → (here ≡ true → first ≡ false → second ≡ true → cross ≡ false) → same ≡ true → (second ≡ true → theirs ≡ own)
    → exchanged here first second back (exchanged here cross same to theirs x) (exchanged here second first to theirs own) ≡ own
exchanged_twice false first second cross same to back theirs own x a b c d = refl
exchanged_twice true true second cross same to back theirs own x a b c d = a refl refl
exchanged_twice true false true cross same to back theirs own x a b c d =
    ap (λ k. cond k to (cond same theirs x)) (b refl refl refl) ∙ ap (λ k. cond k theirs x) c ∙ d refl
exchanged_twice true false false cross same to back theirs own x a b c d = refl

crossed : (x a b : ℕ) → eqb x a ≡ false → eqb x b ≡ true → eqb a b ≡ false
crossed x a b p q = grind (arith, nat_tests)

module _ (e : Meaning) (tape : IsTape e) (words : HasWords e) (tree : ℕ) (sort : TreeKind) (depth alpha beta alpha2 beta2 : ℕ) where
  abbrev pub one : Secret
  one = record { kind = sort; depth = depth; alpha = alpha; beta = beta }

  abbrev pub two : Secret
  two = record { kind = sort; depth = depth; alpha = alpha2; beta = beta2 }

  module _ (kind : TreeKind) (p : Provider) where
    abbrev pub m : Meaning
    m = mapped kind e p tree one two

    abbrev pub m_tape : IsTape m
    m_tape = mapped_is_tape kind e p tree one two tape

    back_related : Related m e p tree two one
    back_related =
        let there = related kind e tape p tree sort depth alpha beta alpha2 beta2 in
        record {
          blocks = λ i pre sd. sym (there.blocks i pre sd);
          leaves = λ i pre sd. sym (there.leaves i pre sd);
          depths = refl;
          same_corrections = λ i h. sym (there.same_corrections i h);
        }

    -- p's bit on the first path
    bit_back : (i : ℕ) → i ≤ depth → own_bit p (path e tree one (0, 0) i) ≡ kept_bit m p tree two one i
    bit_back i h = bits_kept m e m_tape tape p tree two one back_related (0, 0) i h

  word_back : (p : Provider) (i : ℕ) (d : Bool) → i < depth →
      moved_word p (kept_bit (m Threshold p) p tree two one i) (word_at d (e.block (place tree p depth alpha i) 0)) (level_word_at d (level_of e tree one i (path e tree one (0, 0) i))) (target (side depth alpha i) beta d)
      ≡ word_at d (e.block (place tree (other p) depth alpha i) 0)
  unfolding level_word
  word_back Zero i d h =
      let t = kept_bit (m Threshold Zero) Zero tree two one i in
      let w = word_at d (e.block (place tree Zero depth alpha i) 0) in
      let goal = target (side depth alpha i) beta d in
      let n = path e tree one (0, 0) i in
      let bit = bit_back Threshold Zero i (omega arith) in
      ap (λ v. moved_word Zero t w v goal) (level_word-bits e tape tree one (0, 0) i d (zero_bit Zero t) (one_bit Zero t) n (zero_bit-is e tree one (0, 0) Zero i t bit) (one_bit-is e tree one (0, 0) Zero i t bit))
      ∙ word_forth_zero t w (word_at d (e.block (place tree One depth alpha i) 0)) goal (words.blocks _ 0 d)
  word_back One i d h =
      let t = kept_bit (m Threshold One) One tree two one i in
      let w = word_at d (e.block (place tree One depth alpha i) 0) in
      let goal = target (side depth alpha i) beta d in
      let n = path e tree one (0, 0) i in
      let bit = bit_back Threshold One i (omega arith) in
      ap (λ v. moved_word One t w v goal) (level_word-bits e tape tree one (0, 0) i d (zero_bit One t) (one_bit One t) n (zero_bit-is e tree one (0, 0) One i t bit) (one_bit-is e tree one (0, 0) One i t bit))
      ∙ word_forth_one t w (word_at d (e.block (place tree Zero depth alpha i) 0)) goal (words.blocks _ 0 d)

  pub leaf_back : (kind : TreeKind) (p : Provider) → moved_leaf (m kind p) p tree two one ≡ e.leaf (place tree (other p) depth alpha depth) 0
  unfolding moved_leaf last_word_of
  leaf_back kind Zero =
      let t = kept_bit (m kind Zero) Zero tree two one depth in
      let w = e.leaf (place tree Zero depth alpha depth) 0 in
      let bit = bit_back kind Zero depth (omega arith) in
      ap₂ (λ x v. moved_word Zero t x v beta) (own_leaf kind e Zero tree one two tree depth (prefix depth alpha depth) 0)
      (last_same e tape Zero tree sort depth alpha beta alpha2 beta2 (0, 0) kind
      ∙ last-bits e tape tree one (zero_bit Zero t) (one_bit Zero t) (path e tree one (0, 0) depth) (zero_bit-is e tree one (0, 0) Zero depth t bit) (one_bit-is e tree one (0, 0) Zero depth t bit))
      ∙ word_forth_zero t w (e.leaf (place tree One depth alpha depth) 0) beta (words.leaves _ 0)
  leaf_back kind One =
      let t = kept_bit (m kind One) One tree two one depth in
      let w = e.leaf (place tree One depth alpha depth) 0 in
      let bit = bit_back kind One depth (omega arith) in
      ap₂ (λ x v. moved_word One t x v beta) (own_leaf kind e One tree one two tree depth (prefix depth alpha depth) 0)
      (last_same e tape One tree sort depth alpha beta alpha2 beta2 (0, 0) kind
      ∙ last-bits e tape tree one (zero_bit One t) (one_bit One t) (path e tree one (0, 0) depth) (zero_bit-is e tree one (0, 0) One depth t bit) (one_bit-is e tree one (0, 0) One depth t bit))
      ∙ word_forth_one t w (e.leaf (place tree Zero depth alpha depth) 0) beta (words.leaves _ 0)

  -- the words of the block that comes back
  back_word : (kind : TreeKind) (p : Provider) (i : ℕ) (d : Bool) → i < depth →
      moved_level_word kind p (kept_bit (m kind p) p tree two one i) (target (side depth alpha i) beta d) (level_of (m kind p) tree two i (path (m kind p) tree two (0, 0) i)) ((m kind p).block (place tree (other p) depth alpha2 i) 0) ((m kind p).block (place tree p depth alpha i) 0) d
      ≡ word_at d (e.block (place tree (other p) depth alpha i) 0)
  unfolding moved_block
  back_word Point p i d h =
      let keep2 = side depth alpha2 i in
      let row = level_of e tree one i (path e tree one (0, 0) i) in
      let q = e.block (place tree p depth alpha2 i) 0 in
      let b = e.block (place tree (other p) depth alpha i) 0 in
      ap (word_at d) (moved_place Point e p tree one two depth i 0 h)
      ∙ word_at-moved d (side depth alpha i) keep2 row.correction b q (λ k. moved_level_word Point p (kept_bit e p tree one two i) (target keep2 beta2 k) row b q k)
  back_word Threshold p i d h =
      let t = kept_bit (m Threshold p) p tree two one i in
      let goal = target (side depth alpha i) beta d in
      ap₂ (λ x v. moved_word p t (word_at d x) (level_word_at d v) goal)
      (own_block Threshold e p tree one two depth tree i (prefix depth alpha i) 0)
      (level_same e tape p tree sort depth alpha beta alpha2 beta2 (0, 0) i h)
      ∙ word_back p i d h

  first_correction : (p : Provider) (i : ℕ) → correction_of e tree one i no_nodes ≡ correction (side depth alpha i) (e.block (place tree p depth alpha i) 0) (e.block (place tree (other p) depth alpha i) 0)
  unfolding correction_of
  first_correction Zero i = refl
  first_correction One i = correction_comm (side depth alpha i) (e.block (place tree Zero depth alpha i) 0) (e.block (place tree One depth alpha i) 0)

  pub block_back : (kind : TreeKind) (p : Provider) (i : ℕ) → i < depth → moved_block kind (m kind p) p tree two one i ≡ e.block (place tree (other p) depth alpha i) 0
  unfolding moved_block
  block_back kind p i h =
      let keep = side depth alpha i in
      let keep2 = side depth alpha2 i in
      let row = level_of e tree one i (path e tree one (0, 0) i) in
      let q2 = e.block (place tree p depth alpha2 i) 0 in
      let q = e.block (place tree p depth alpha i) 0 in
      let b = e.block (place tree (other p) depth alpha i) 0 in
      let n = path (m kind p) tree two (0, 0) i in
      let row2 = level_of (m kind p) tree two i n in
      let b2 = (m kind p).block (place tree (other p) depth alpha2 i) 0 in
      let own = (m kind p).block (place tree p depth alpha i) 0 in
      let there : Bool → ℕ = λ d. moved_level_word kind p (kept_bit e p tree one two i) (target keep2 beta2 d) row b q2 d in
      let words : Bool → ℕ = λ d. moved_level_word kind p (kept_bit (m kind p) p tree two one i) (target keep beta d) row2 b2 own d in
      let c : row2.correction ≡ correction keep q b =
      level_correction (m kind p) tree two i n
      ∙ correction_same e tape p tree sort depth alpha beta alpha2 beta2 (0, 0) kind i n no_nodes h
      ∙ first_correction p i in
      ap (λ x. moved keep2 keep x b2 own words) c
      ∙ ap (λ x. moved keep2 keep (correction keep q b) x own words) (moved_place kind e p tree one two depth i 0 h)
      ∙ ap (λ x. moved keep2 keep (correction keep q b) (moved keep keep2 row.correction b q2 there) x words) (own_block kind e p tree one two depth tree i (prefix depth alpha i) 0)
      ∙ moved_back keep keep2 row.correction b q2 q there words (back_word kind p i false h) (back_word kind p i true h)

  -- a place that passes the tests of a path is the path's
  pub path_place : (o : Provider) (n x : ℕ) (q : Place) → is_block_place tree o n q ≡ true → on_path depth x q ≡ true → q ≡ place tree o depth x q.level
  path_place o n x q h k =
      let parts = each (same_provider o q.provider) (eqb q.tree tree) (ltb q.level n) h in
      ap (λ r. record { tree = q.tree; provider = r; level = q.level; prefix = q.prefix }) (same_provider-true o q.provider parts.0)
      ∙ ap (λ t. record { tree = t; provider = o; level = q.level; prefix = q.prefix }) (eqb-true q.tree tree parts.1)
      ∙ ap (λ z. record { tree = tree; provider = o; level = q.level; prefix = z }) (eqb-true q.prefix (prefix depth x q.level) k)

  pub leaf_place : (o : Provider) (x : ℕ) (q : Place) → is_leaf_place tree o depth q ≡ true → on_path depth x q ≡ true → q ≡ place tree o depth x depth
  leaf_place o x q h k =
      let parts = each (same_provider o q.provider) (eqb q.tree tree) (eqb q.level depth) h in
      ap (λ r. record { tree = q.tree; provider = r; level = q.level; prefix = q.prefix }) (same_provider-true o q.provider parts.0)
      ∙ ap (λ t. record { tree = t; provider = o; level = q.level; prefix = q.prefix }) (eqb-true q.tree tree parts.1)
      ∙ ap (λ z. record { tree = tree; provider = o; level = q.level; prefix = z }) (eqb-true q.prefix (prefix depth x q.level) k)
      ∙ ap (λ i. place tree o depth x i) (eqb-true q.level depth parts.2)

  pub blocks_back : (kind : TreeKind) (p : Provider) (q : Place) (seed : ℕ) → (mapped kind (m kind p) p tree two one).block q seed ≡ e.block q seed
  unfolding mapped_blocks
  blocks_back kind p q seed =
      let here = is_block_place tree (other p) depth q in
      exchanged_twice here (on_path depth alpha q) (on_path depth alpha2 q) (eqb (prefix depth alpha q.level) (prefix depth alpha2 q.level)) (eqb (prefix depth alpha q.level) (prefix depth alpha q.level))
      (moved_block kind e p tree one two q.level) (moved_block kind (m kind p) p tree two one q.level)
      (e.block (along depth alpha2 q) 0) (e.block q seed) (e.block (along depth alpha q) 0)
      (λ h k.
      let parts = each (same_provider (other p) q.provider) (eqb q.tree tree) (ltb q.level depth) h in
      let lt : q.level < depth = grind (arith, nat_tests, parts.2) in
      block_back kind p q.level lt ∙ tape.blocks (place tree (other p) depth alpha q.level) 0 seed ∙ ap (λ z. e.block z seed) (sym (path_place (other p) depth alpha q h k)))
      (λ h k l. crossed q.prefix (prefix depth alpha q.level) (prefix depth alpha2 q.level) k l)
      (eq-eqb (prefix depth alpha q.level) (prefix depth alpha q.level) refl)
      (λ k. tape.blocks (along depth alpha2 q) 0 seed ∙ ap (λ z. e.block (record { tree = q.tree; provider = q.provider; level = q.level; prefix = z }) seed) (sym (eqb-true q.prefix (prefix depth alpha2 q.level) k)))

  pub leaves_back : (kind : TreeKind) (p : Provider) (q : Place) (seed : ℕ) → (mapped kind (m kind p) p tree two one).leaf q seed ≡ e.leaf q seed
  unfolding mapped_leaves
  leaves_back kind p q seed =
      let here = is_leaf_place tree (other p) depth q in
      exchanged_twice here (on_path depth alpha q) (on_path depth alpha2 q) (eqb (prefix depth alpha q.level) (prefix depth alpha2 q.level)) (eqb (prefix depth alpha q.level) (prefix depth alpha q.level))
      (moved_leaf e p tree one two) (moved_leaf (m kind p) p tree two one)
      (e.leaf (along depth alpha2 q) 0) (e.leaf q seed) (e.leaf (along depth alpha q) 0)
      (λ h k. leaf_back kind p ∙ tape.leaves (place tree (other p) depth alpha depth) 0 seed ∙ ap (λ z. e.leaf z seed) (sym (leaf_place (other p) alpha q h k)))
      (λ h k l. crossed q.prefix (prefix depth alpha q.level) (prefix depth alpha2 q.level) k l)
      (eq-eqb (prefix depth alpha q.level) (prefix depth alpha q.level) refl)
      (λ k. tape.leaves (along depth alpha2 q) 0 seed ∙ ap (λ z. e.leaf (record { tree = q.tree; provider = q.provider; level = q.level; prefix = z }) seed) (sym (eqb-true q.prefix (prefix depth alpha2 q.level) k)))
