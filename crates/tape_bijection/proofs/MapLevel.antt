-- What one turn of the loop over the levels does.
use Rattle.std.proofs.Common.{◌≡◌, ◌≢◌, ℕ, ◌+◌, ◌<◌, Bool, true, false, refl, sym, ap, ap₂, ◌∙◌, arith, ltb, eqb, ◌&&◌, ◌||◌}
use Rattle.std.specs.Prelude.{is_some}
use Rattle.std.proofs.lemmas.Bool.Decides.{nat_tests}
use Rattle.spl_words.specs.declared.provider.Provider.{Provider}
use Rattle.spl_words.specs.declared.provider.Provider.TheVariants.{Zero, One}
use Rattle.spl_words.specs.declared.secret.TreeKind.{TreeKind}
use Rattle.spl_words.specs.Words.{other}
use Rattle.spl_words.specs.Secrets.{Secret}
use Rattle.seed_expansion.specs.declared.nodes.Place.{Place}
use Rattle.seed_expansion.specs.declared.nodes.Block.{Block}
use Rattle.seed_expansion.specs.declared.nodes.Node.{Node}
use Rattle.seed_expansion.specs.Expanders.{Meaning}
use Rattle.seed_expansion.specs.Tapes.{Entries, block_at, or_no_block, tape_meaning}
use Rattle.seed_expansion.specs.Walk.{child, correction_of, corrections, node, path, place, prefix, side}
use Rattle.seed_expansion.proofs.Walk.{held, held-suc, path-more, step_of}
use Rattle.interval_keys.specs.declared.keys.ThresholdLevel.{ThresholdLevel}
use Rattle.interval_keys.specs.Thresholds.{level_between, level_of, target}
use Rattle.tape_bijection.specs.Moves.{kept_bit, moved, moved_block, moved_level_word}
use Rattle.tape_bijection.specs.Mapped.{is_block_place, mapped_blocks, on_path, same_provider}
use Rattle.tape_bijection.specs.Entered.{has_block_after}
use Rattle.tape_bijection.proofs.MapStep.{ahead, done, entered, step}
use Rattle.tape_bijection.proofs.TreeKeys.{level_correction}

-- the block that a turn moves, from what it read
abbrev pub moved_with : TreeKind → Provider → ℕ → Bool → Bool → Bool → ThresholdLevel → Block → Block → Block
moved_with kind p beta keep keep2 bit row theirs own = moved keep keep2 row.correction theirs own (λ d. moved_level_word kind p bit (target keep2 beta d) row theirs own d)

module _ (kind : TreeKind) (old t : Entries) (p : Provider) (tree : ℕ) (s s2 : Secret) (i : ℕ) (first second : Place) (keep keep2 : Bool) (zero one kept : Node) (b0 b1 own theirs : Block) (row : ThresholdLevel) where
  abbrev e : Meaning
  e = tape_meaning old

  -- what holds before a turn, and what it reads
  pub record Did : Type 0 where
    pub below : i < s.depth
    pub before : (q : Place) → or_no_block (block_at t q) ≡ mapped_blocks kind (tape_meaning old) p tree s s2 i q 0
    pub zero_is : zero ≡ (path (tape_meaning old) tree s (0, 0) i).0
    pub one_is : one ≡ (path (tape_meaning old) tree s (0, 0) i).1
    pub kept_is : kept ≡ node (tape_meaning old) p tree s.depth 0 (corrections (tape_meaning old) tree s (0, 0) s.depth) s2.alpha i
    pub first_is : first ≡ place tree (other p) s.depth s.alpha i
    pub second_is : second ≡ place tree (other p) s.depth s2.alpha i
    pub keep_is : keep ≡ side s.depth s.alpha i
    pub keep2_is : keep2 ≡ side s.depth s2.alpha i
    pub b0_is : b0 ≡ or_no_block (block_at t (place tree Zero s.depth s.alpha i))
    pub b1_is : b1 ≡ or_no_block (block_at t (place tree One s.depth s.alpha i))
    pub own_is : own ≡ or_no_block (block_at t (place tree p s.depth s2.alpha i))
    pub theirs_is : theirs ≡ or_no_block (block_at t first)
    pub row_is : row ≡ level_between keep s.beta zero.bit one.bit b0 b1

  module _ (did : Did) where
    -- at this level the tape reads what it read before the loop
    reads : (r : Provider) (z : ℕ) → or_no_block (block_at t (record { tree = tree; provider = r; level = i; prefix = z })) ≡ e.block (record { tree = tree; provider = r; level = i; prefix = z }) 0
    reads r z = did.before (record { tree = tree; provider = r; level = i; prefix = z }) ∙ ahead kind e p tree s s2 i z 0 r

    zero_block : b0 ≡ e.block (place tree Zero s.depth s.alpha i) 0
    zero_block = did.b0_is ∙ reads Zero (prefix s.depth s.alpha i)

    one_block : b1 ≡ e.block (place tree One s.depth s.alpha i) 0
    one_block = did.b1_is ∙ reads One (prefix s.depth s.alpha i)

    own_block : own ≡ e.block (place tree p s.depth s2.alpha i) 0
    own_block = did.own_is ∙ reads p (prefix s.depth s2.alpha i)

    their_block : theirs ≡ e.block (place tree (other p) s.depth s.alpha i) 0
    their_block = did.theirs_is ∙ ap (λ q. or_no_block (block_at t q)) did.first_is ∙ reads (other p) (prefix s.depth s.alpha i)

    row_made : row ≡ level_of e tree s i (path e tree s (0, 0) i)
    unfolding level_of
    row_made =
        let n = path e tree s (0, 0) i in
        did.row_is
        ∙ ap (λ k. level_between k s.beta zero.bit one.bit b0 b1) did.keep_is
        ∙ ap₂ (λ x y. level_between (side s.depth s.alpha i) s.beta x.bit y.bit b0 b1) did.zero_is did.one_is
        ∙ ap₂ (level_between (side s.depth s.alpha i) s.beta n.0.bit n.1.bit) zero_block one_block

    correction_made : row.correction ≡ correction_of e tree s i (path e tree s (0, 0) i)
    correction_made = ap (λ v. v.correction) row_made ∙ level_correction e tree s i (path e tree s (0, 0) i)

    pub zero_next : child keep zero.bit b0 row.correction ≡ (path e tree s (0, 0) (i + 1)).0
    unfolding step_of
    zero_next =
        let d = side s.depth s.alpha i in
        ap₂ (λ k n. child k n.bit b0 row.correction) did.keep_is did.zero_is
        ∙ ap₂ (child d (path e tree s (0, 0) i).0.bit) zero_block correction_made
        ∙ sym (ap (λ n. n.0) (path-more e tree s (0, 0) i))

    pub one_next : child keep one.bit b1 row.correction ≡ (path e tree s (0, 0) (i + 1)).1
    unfolding step_of
    one_next =
        let d = side s.depth s.alpha i in
        ap₂ (λ k n. child k n.bit b1 row.correction) did.keep_is did.one_is
        ∙ ap₂ (child d (path e tree s (0, 0) i).1.bit) one_block correction_made
        ∙ sym (ap (λ n. n.1) (path-more e tree s (0, 0) i))

    pub kept_next : child keep2 kept.bit own row.correction ≡ node e p tree s.depth 0 (corrections e tree s (0, 0) s.depth) s2.alpha (i + 1)
    unfolding step_of
    kept_next =
        let d = side s.depth s2.alpha i in
        ap₂ (λ k n. child k n.bit own row.correction) did.keep2_is did.kept_is
        ∙ ap₂ (child d (held e tree s (0, 0) s.depth p 0 s2.alpha i).bit) own_block correction_made
        ∙ sym (held-suc e tree s (0, 0) s.depth p 0 s2.alpha i did.below)

    bit_made : kept.bit ≡ kept_bit e p tree s s2 i
    unfolding kept_bit
    bit_made = ap (λ n. n.bit) did.kept_is

    moved_made : moved_with kind p s2.beta keep keep2 kept.bit row theirs own ≡ moved_block kind e p tree s s2 i
    unfolding moved_block
    moved_made =
        let make = moved_with kind p s2.beta in
        let k = side s.depth s.alpha i in
        let k2 = side s.depth s2.alpha i in
        let bit = kept_bit e p tree s s2 i in
        let r = level_of e tree s i (path e tree s (0, 0) i) in
        ap₂ (λ x y. make x y kept.bit row theirs own) did.keep_is did.keep2_is
        ∙ ap₂ (λ x y. make k k2 x y theirs own) bit_made row_made
        ∙ ap₂ (make k k2 bit r) their_block own_block

    module _ (new : Entries) where
      pub blocks_next :
          or_no_block (block_at new second) ≡ moved_with kind p s2.beta keep keep2 kept.bit row theirs own
          → (first ≢ second → or_no_block (block_at new first) ≡ or_no_block (block_at t second))
          → ((q : Place) → q ≢ second → q ≢ first → block_at new q ≡ block_at t q)
          → (q : Place) → or_no_block (block_at new q) ≡ mapped_blocks kind e p tree s s2 (i + 1) q 0
      unfolding mapped_blocks done
      blocks_next second_new first_new elsewhere q =
          step p tree s s2 (moved_block kind e p tree s s2) (λ z. e.block z 0) (λ z. e.block z 0) i (λ z. or_no_block (block_at t z)) (λ z. or_no_block (block_at new z)) did.before
          (ap (λ z. or_no_block (block_at new z)) (sym did.second_is) ∙ second_new ∙ moved_made)
          (λ apart.
          ap (λ z. or_no_block (block_at new z)) (sym did.first_is)
          ∙ first_new (λ h. apart (ap (λ z. z.prefix) (sym did.first_is ∙ h ∙ did.second_is)))
          ∙ ap (λ z. or_no_block (block_at t z)) did.second_is
          ∙ reads (other p) (prefix s.depth s2.alpha i))
          (λ z n m. ap or_no_block (elsewhere z (λ h. n (h ∙ did.second_is)) (λ h. m (h ∙ did.first_is))))
          q

      pub entries_next :
          is_some (block_at new second) ≡ true
          → is_some (block_at new first) ≡ true
          → ((q : Place) → q ≢ second → q ≢ first → block_at new q ≡ block_at t q)
          → ((q : Place) → is_some (block_at t q) ≡ has_block_after i old p tree s s2 q)
          → (q : Place) → is_some (block_at new q) ≡ has_block_after (i + 1) old p tree s s2 q
      unfolding done
      entries_next second_new first_new elsewhere was q =
          let on2 = on_path s.depth s2.alpha in
          let on1 = on_path s.depth s.alpha in
          let its : Place → Bool = λ z. is_some (block_at old z) in
          step p tree s s2 (λ _. true) (λ _. true) its i (λ z. is_some (block_at t z)) (λ z. is_some (block_at new z))
          (λ z. was z ∙ sym (entered (is_block_place tree (other p) i z) (on2 z) (on1 z) (its z)))
          (ap (λ z. is_some (block_at new z)) (sym did.second_is) ∙ second_new)
          (λ apart. ap (λ z. is_some (block_at new z)) (sym did.first_is) ∙ first_new)
          (λ z n m. ap is_some (elsewhere z (λ h. n (h ∙ did.second_is)) (λ h. m (h ∙ did.first_is))))
          q
          ∙ entered (is_block_place tree (other p) (i + 1) q) (on2 q) (on1 q) (its q)

none_yet : (a b x y : Bool) (i : ℕ) → ((a && (b && ltb i 0)) && x || y) ≡ y
none_yet false b x y i = refl
none_yet true false x y i = refl
none_yet true true x y i =
    let f : ltb i 0 ≡ false = grind (arith, nat_tests) in
    ap (λ t. t && x || y) f

pub no_entries : (old : Entries) (p : Provider) (tree : ℕ) (s s2 : Secret) (q : Place) → has_block_after 0 old p tree s s2 q ≡ is_some (block_at old q)
no_entries old p tree s s2 q = none_yet (same_provider (other p) q.provider) (eqb q.tree tree) (on_path s.depth s2.alpha q || on_path s.depth s.alpha q) (is_some (block_at old q)) q.level
