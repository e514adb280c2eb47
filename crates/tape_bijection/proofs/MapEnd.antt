-- What the exchange of the leaf words does.
use Rattle.std.proofs.Common.{◌≡◌, ◌≢◌, ℕ, sym, ap, ap₂, ◌∙◌}
use Rattle.spl_words.specs.declared.provider.Provider.{Provider}
use Rattle.spl_words.specs.declared.provider.Provider.TheVariants.{Zero, One}
use Rattle.spl_words.specs.Words.{other}
use Rattle.spl_words.specs.Secrets.{Secret}
use Rattle.seed_expansion.specs.declared.nodes.Node.{Node}
use Rattle.seed_expansion.specs.declared.nodes.Place.{Place}
use Rattle.seed_expansion.specs.Expanders.{Meaning}
use Rattle.seed_expansion.specs.Leaves.{last_of, last_word}
use Rattle.seed_expansion.specs.Tapes.{Entries, leaf_at, or_no_word, tape_meaning}
use Rattle.seed_expansion.specs.Walk.{path, place}
use Rattle.tape_bijection.specs.Moves.{kept_bit, moved_leaf, moved_word}
use Rattle.tape_bijection.specs.Mapped.{mapped_leaves}
use Rattle.tape_bijection.proofs.MapStep.{leaf_step}

module _ (old t : Entries) (p : Provider) (tree : ℕ) (s s2 : Secret) (first second : Place) (zero one kept : Node) (w0 w1 own last word : ℕ) where
  abbrev e : Meaning
  e = tape_meaning old

  -- what holds below the levels, and what is read there
  pub record Ended : Type 0 where
    pub leaves : (q : Place) → leaf_at t q ≡ leaf_at old q
    pub zero_is : zero ≡ (path (tape_meaning old) tree s (0, 0) s.depth).0
    pub one_is : one ≡ (path (tape_meaning old) tree s (0, 0) s.depth).1
    pub kept_is : kept.bit ≡ kept_bit (tape_meaning old) p tree s s2 s.depth
    pub first_is : first ≡ place tree (other p) s.depth s.alpha s.depth
    pub second_is : second ≡ place tree (other p) s.depth s2.alpha s.depth
    pub w0_is : w0 ≡ or_no_word (leaf_at t (place tree Zero s.depth s.alpha s.depth))
    pub w1_is : w1 ≡ or_no_word (leaf_at t (place tree One s.depth s.alpha s.depth))
    pub own_is : own ≡ or_no_word (leaf_at t (place tree p s.depth s2.alpha s.depth))
    pub last_is : last ≡ last_word s.beta zero.bit one.bit w0 w1
    pub word_is : word ≡ moved_word p kept.bit own last s2.beta

  module _ (ended : Ended) where
    reads : (q : Place) → or_no_word (leaf_at t q) ≡ e.leaf q 0
    reads q = ap or_no_word (ended.leaves q)

    last_made : last ≡ last_of e tree s s.depth (path e tree s (0, 0) s.depth)
    unfolding last_of
    last_made =
        let n = path e tree s (0, 0) s.depth in
        ended.last_is
        ∙ ap₂ (λ a b. last_word s.beta a.bit b.bit w0 w1) ended.zero_is ended.one_is
        ∙ ap₂ (last_word s.beta n.0.bit n.1.bit) (ended.w0_is ∙ reads (place tree Zero s.depth s.alpha s.depth)) (ended.w1_is ∙ reads (place tree One s.depth s.alpha s.depth))

    word_made : word ≡ moved_leaf e p tree s s2
    unfolding moved_leaf
    word_made =
        ended.word_is
        ∙ ap (λ b. moved_word p b own last s2.beta) ended.kept_is
        ∙ ap₂ (λ w v. moved_word p (kept_bit e p tree s s2 s.depth) w v s2.beta) (ended.own_is ∙ reads (place tree p s.depth s2.alpha s.depth)) last_made

    module _ (new : Entries) where
      pub leaves_made :
          or_no_word (leaf_at new second) ≡ word
          → (first ≢ second → or_no_word (leaf_at new first) ≡ or_no_word (leaf_at t second))
          → ((q : Place) → q ≢ second → q ≢ first → leaf_at new q ≡ leaf_at t q)
          → (q : Place) → or_no_word (leaf_at new q) ≡ mapped_leaves e p tree s s2 q 0
      unfolding mapped_leaves
      leaves_made second_new first_new elsewhere q =
          leaf_step p tree s s2 (moved_leaf e p tree s s2) (λ z. e.leaf z 0) (λ z. e.leaf z 0) (λ z. or_no_word (leaf_at t z)) (λ z. or_no_word (leaf_at new z))
          reads
          (ap (λ z. or_no_word (leaf_at new z)) (sym ended.second_is) ∙ second_new ∙ word_made)
          (λ apart.
          ap (λ z. or_no_word (leaf_at new z)) (sym ended.first_is)
          ∙ first_new (λ h. apart (ap (λ z. z.prefix) (sym ended.first_is ∙ h ∙ ended.second_is)))
          ∙ ap (λ z. or_no_word (leaf_at t z)) ended.second_is
          ∙ reads (place tree (other p) s.depth s2.alpha s.depth))
          (λ z n m. ap or_no_word (elsewhere z (λ h. n (h ∙ ended.second_is)) (λ h. m (h ∙ ended.first_is))))
          q
