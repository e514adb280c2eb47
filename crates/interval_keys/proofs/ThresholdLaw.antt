-- The two shares of a threshold key add to its function.
use Rattle.std.proofs.Common.{◌≡◌, ◌≢◌, inl, inr, ◌∷◌, [], ◌++◌, ℕ, zero, suc, ◌+◌, ◌^◌, ◌%◌, ◌<◌, ◌≤◌, Bool, true, false, not, length, List, get_or, cond, refl, sym, ap, ap₂, ◌∙◌, arith, ltb, leb, subst, add-one}
use Rattle.std.specs.List.{range_with_len}
use Rattle.std.proofs.lemmas.Simd.{map-map}
use Rattle.std.proofs.lemmas.List.FromFn.{map-range_with_len_more, length-map-range_with_len, get_or-map-range_with_len}
use Rattle.std.proofs.lemmas.Bool.Decides.{nat_tests}
use Rattle.spl_words.specs.declared.provider.Provider.{Provider}
use Rattle.spl_words.specs.declared.provider.Provider.TheVariants.{Zero, One}
use Rattle.spl_words.specs.Words.{plus}
use Rattle.spl_words.specs.Secrets.{Secret, threshold_value}
use Rattle.seed_expansion.specs.declared.nodes.Node.{Node}
use Rattle.seed_expansion.specs.declared.nodes.Correction.{Correction}
use Rattle.seed_expansion.specs.Expanders.{Meaning, IsPure}
use Rattle.seed_expansion.specs.Walk.{corrections, correction_of, path, node, place, prefix, side, word_at}
use Rattle.seed_expansion.specs.Leaves.{last_of, last_word, leaf_share}
use Rattle.seed_expansion.proofs.Steps.{leaf_adds, leaf_cancels}
use Rattle.seed_expansion.proofs.Bits.{prefix_none, prefix_all, next_same, below_turned, below_other, same_bools}
use Rattle.seed_expansion.proofs.Walk.{OnPath, OffPath, walk, held, path_bits}
use Rattle.seed_expansion.proofs.Leaves.{leaf_of, share_at, on_leaf, off_leaf}
use Rattle.interval_keys.specs.declared.keys.ThresholdKey.{ThresholdKey}
use Rattle.interval_keys.specs.declared.keys.ThresholdLevel.{ThresholdLevel}
use Rattle.interval_keys.specs.Thresholds.{corrections_in, level_between, level_of, level_word_at, levels, no_level, target, terms, threshold_keys, threshold_share, ThresholdSharesAdd}

regroup : (a b c d : ℕ) → plus (plus a b) (plus c d) ≡ plus (plus a c) (plus b d)
regroup a b c d = omega arith

whole : (c : Bool) (b : ℕ) → b < 2 ^ 64 → plus (cond c b 0) 0 ≡ cond c b 0
whole false b h = refl
whole true b h = omega arith

alone : (b : ℕ) → b < 2 ^ 64 → plus 0 b ≡ b
alone b h = omega arith

started : (c : Bool) (b : ℕ) → b < 2 ^ 64 → plus 0 (cond c b 0 % 2 ^ 64) ≡ cond c b 0
started false b h = refl
started true b h = omega arith

target_kept : (k : Bool) (b : ℕ) → target k b k ≡ 0
target_kept false b = refl
target_kept true b = refl

target_turned : (k : Bool) (b : ℕ) → target k b (not k) ≡ cond k b 0
target_turned false b = refl
target_turned true b = refl

ltb_same : (p q : ℕ) → p ≡ q → ltb p q ≡ false
ltb_same p q h = grind (arith, nat_tests)

leb_other : (p q : ℕ) → p ≢ q → leb p q ≡ ltb p q
leb_other p q h = grind (arith, nat_tests)

leb_same : (p q : ℕ) → p ≡ q → leb p q ≡ true
leb_same p q h = grind (arith, nat_tests)

module _ (e : Meaning) (tree : ℕ) (s : Secret) (roots : ℕ × ℕ) where
  pub length-levels : (n : ℕ) → length (levels e tree s roots n) ≡ n
  unfolding levels
  length-levels n = length-map-range_with_len (λ i. level_of e tree s i (path e tree s roots i)) 0 n

  pub get_or-levels : (n i : ℕ) → i < n → get_or (levels e tree s roots n) i no_level ≡ level_of e tree s i (path e tree s roots i)
  unfolding levels
  get_or-levels n i h = get_or-map-range_with_len (λ i. level_of e tree s i (path e tree s roots i)) 0 n i i no_level h (omega arith)

  pub levels-more : (n : ℕ) → levels e tree s roots (n + 1) ≡ levels e tree s roots n ++ level_of e tree s n (path e tree s roots n) ∷ []
  unfolding levels
  levels-more n = map-range_with_len_more (λ i. level_of e tree s i (path e tree s roots i)) 0 n n (omega arith)

  pub corrections_in-levels : (n : ℕ) → corrections_in (levels e tree s roots n) ≡ corrections e tree s roots n
  unfolding levels corrections level_of level_between correction_of
  corrections_in-levels n = map-map (λ v. v.correction) (λ i. level_of e tree s i (path e tree s roots i)) (range_with_len 0 n)

  pub level_word-is : (d : Bool) (i : ℕ) (n : Node × Node) → level_word_at d (level_of e tree s i n) ≡ last_word (target (side s.depth s.alpha i) s.beta d) n.0.bit n.1.bit (word_at d (e.block (place tree Zero s.depth s.alpha i) n.0.seed)) (word_at d (e.block (place tree One s.depth s.alpha i) n.1.seed))
  unfolding level_of level_between
  level_word-is false i n = refl
  level_word-is true i n = refl

  -- the term of level i of provider p where its node there is n and x goes to d
  term_of : Provider → ℕ → Bool → ℕ → Node → ℕ
  term_of p i d pre n = leaf_share p n.bit (word_at d (e.block (record { tree = tree; provider = p; level = i; prefix = pre }) n.seed)) (level_word_at d (level_of e tree s i (path e tree s roots i)))

  on_terms : (i : ℕ) (d : Bool) → plus (term_of Zero i d (prefix s.depth s.alpha i) (path e tree s roots i).0) (term_of One i d (prefix s.depth s.alpha i) (path e tree s roots i).1) ≡ target (side s.depth s.alpha i) s.beta d % 2 ^ 64
  unfolding term_of
  on_terms i d =
      let n = path e tree s roots i in
      let w0 = word_at d (e.block (place tree Zero s.depth s.alpha i) n.0.seed) in
      let w1 = word_at d (e.block (place tree One s.depth s.alpha i) n.1.seed) in
      let goal = target (side s.depth s.alpha i) s.beta d in
      ap (λ v. plus (leaf_share Zero n.0.bit w0 v) (leaf_share One n.1.bit w1 v)) (level_word-is d i n)
      ∙ ap (λ t. plus (leaf_share Zero n.0.bit w0 (last_word goal n.0.bit t w0 w1)) (leaf_share One t w1 (last_word goal n.0.bit t w0 w1))) (path_bits e tree s roots i)
      ∙ leaf_adds n.0.bit w0 w1 goal

  key_of : ℕ → ThresholdKey
  key_of root = record { root = root; levels = levels e tree s roots s.depth; last = last_of e tree s s.depth (path e tree s roots s.depth) }

  -- the sum of the terms so far
  sum_of : Provider → ℕ → ℕ → ℕ → ℕ
  sum_of p root x i = terms e p tree (key_of root) x i

  sum_of-more : (p : Provider) (root x i : ℕ) → i < s.depth → sum_of p root x (i + 1) ≡ plus (sum_of p root x i) (term_of p i (side s.depth x i) (prefix s.depth x i) (held e tree s roots s.depth p root x i))
  unfolding sum_of term_of terms key_of
  sum_of-more p root x i h =
      let rows = levels e tree s roots s.depth in
      let before = sum_of p root x i in
      let shape = λ (depth : ℕ) (cs : List Correction) (row : ThresholdLevel). plus before (leaf_share p (node e p tree depth root cs x i).bit (word_at (side depth x i) (e.block (place tree p depth x i) (node e p tree depth root cs x i).seed)) (level_word_at (side depth x i) row)) in
      ap (sum_of p root x) (add-one i)
      ∙ ap (λ d. shape d (corrections_in rows) (get_or rows i no_level)) (length-levels s.depth)
      ∙ ap (λ cs. shape s.depth cs (get_or rows i no_level)) (corrections_in-levels s.depth)
      ∙ ap (shape s.depth (corrections e tree s roots s.depth)) (get_or-levels s.depth i h)

  module _ (pure : IsPure e) (b : s.beta < 2 ^ 64) (x : ℕ) where
    off_terms : (i : ℕ) (d : Bool) (pre : ℕ) (n : Node) → plus (term_of Zero i d pre n) (term_of One i d pre n) ≡ 0
    unfolding term_of
    off_terms i d pre n =
        let v = level_word_at d (level_of e tree s i (path e tree s roots i)) in
        let w1 = word_at d (e.block (record { tree = tree; provider = One; level = i; prefix = pre }) n.seed) in
        ap (λ k. plus (leaf_share Zero n.bit (word_at d k) v) (leaf_share One n.bit w1 v)) (pure.blocks _ _ n.seed)
        ∙ leaf_cancels n.bit w1 v

    -- what both sums add to after i levels
    Sums : ℕ → Type 0
    Sums i = plus (sum_of Zero roots.0 x i) (sum_of One roots.1 x i) ≡ cond (ltb (prefix s.depth x i) (prefix s.depth s.alpha i)) s.beta 0

    both_more : (i : ℕ) → i < s.depth → plus (sum_of Zero roots.0 x (i + 1)) (sum_of One roots.1 x (i + 1)) ≡ plus (plus (sum_of Zero roots.0 x i) (sum_of One roots.1 x i)) (plus (term_of Zero i (side s.depth x i) (prefix s.depth x i) (held e tree s roots s.depth Zero roots.0 x i)) (term_of One i (side s.depth x i) (prefix s.depth x i) (held e tree s roots s.depth One roots.1 x i)))
    both_more i h = ap₂ plus (sum_of-more Zero roots.0 x i h) (sum_of-more One roots.1 x i h) ∙ regroup _ _ _ _

    on_sums : (i : ℕ) → i < s.depth → OnPath e tree s roots s.depth x i → Sums i → Sums (i + 1)
    unfolding Sums
    on_sums i h on sums =
        let k = side s.depth s.alpha i in
        let d = side s.depth x i in
        let before = sums ∙ ap (λ c. cond c s.beta 0) (ltb_same (prefix s.depth x i) (prefix s.depth s.alpha i) on.same) in
        let pair = ap₂ plus
        (ap (λ z. term_of Zero i d z (held e tree s roots s.depth Zero roots.0 x i)) on.same ∙ ap (term_of Zero i d (prefix s.depth s.alpha i)) on.zero_is)
        (ap (λ z. term_of One i d z (held e tree s roots s.depth One roots.1 x i)) on.same ∙ ap (term_of One i d (prefix s.depth s.alpha i)) on.one_is)
        ∙ on_terms i d in
        both_more i h ∙ ap₂ plus before pair
        ∙ elim (same_bools d k) [
          | inl q ↦ ap (λ v. plus 0 (v % 2 ^ 64)) (ap (target k s.beta) q ∙ target_kept k s.beta)
              ∙ sym (ap (λ c. cond c s.beta 0) (ltb_same (prefix s.depth x (i + 1)) (prefix s.depth s.alpha (i + 1)) (next_same s.depth x s.alpha i h on.same q)))
          | inr q ↦ ap (λ v. plus 0 (v % 2 ^ 64)) (ap (target k s.beta) q ∙ target_turned k s.beta) ∙ started k s.beta b
              ∙ sym (ap (λ c. cond c s.beta 0) (below_turned s.depth x s.alpha i h on.same q))
        ]

    off_sums : (i : ℕ) → i < s.depth → OffPath e tree s roots s.depth x i → Sums i → Sums (i + 1)
    unfolding Sums
    off_sums i h off sums =
        let d = side s.depth x i in
        let pre = prefix s.depth x i in
        let c = ltb (prefix s.depth x i) (prefix s.depth s.alpha i) in
        both_more i h
        ∙ ap₂ plus sums
        (ap (λ n. plus (term_of Zero i d pre n) (term_of One i d pre (held e tree s roots s.depth One roots.1 x i))) off.equal
        ∙ off_terms i d pre (held e tree s roots s.depth One roots.1 x i))
        ∙ whole c s.beta b ∙ sym (ap (λ v. cond v s.beta 0) (below_other s.depth x s.alpha i h off.other))

    sums : x < 2 ^ s.depth → s.alpha < 2 ^ s.depth → (i : ℕ) → i ≤ s.depth → Sums i
    unfolding Sums sum_of terms
    sums xs al zero h =
        sym (ap (λ c. cond c s.beta 0) (ltb_same (prefix s.depth x 0) (prefix s.depth s.alpha 0) (prefix_none s.depth x xs ∙ sym (prefix_none s.depth s.alpha al))))
    sums xs al (suc i) h =
        let lt : i < s.depth = omega arith in
        let le : i ≤ s.depth = omega arith in
        subst Sums (add-one i)
        (elim (walk e tree s roots s.depth pure x xs al (omega arith) i le) [ inl on ↦ on_sums i lt on (sums xs al i le) | inr off ↦ off_sums i lt off (sums xs al i le) ])

    share_is : (p : Provider) (root : ℕ) → threshold_share e p tree (key_of root) x ≡ plus (sum_of p root x s.depth) (share_at e tree s roots s.depth p root x)
    unfolding threshold_share sum_of key_of leaf_of
    share_is p root =
        let rows = levels e tree s roots s.depth in
        let last = last_of e tree s s.depth (path e tree s roots s.depth) in
        let shape = λ (depth : ℕ) (cs : List Correction). plus (terms e p tree (key_of root) x depth) (leaf_share p (node e p tree depth root cs x depth).bit (e.leaf (place tree p depth x depth) (node e p tree depth root cs x depth).seed) last) in
        ap (λ d. shape d (corrections_in rows)) (length-levels s.depth) ∙ ap (shape s.depth) (corrections_in-levels s.depth)

    both : plus (threshold_share e Zero tree (threshold_keys e tree s roots).0 x) (threshold_share e One tree (threshold_keys e tree s roots).1 x) ≡ plus (plus (sum_of Zero roots.0 x s.depth) (sum_of One roots.1 x s.depth)) (plus (share_at e tree s roots s.depth Zero roots.0 x) (share_at e tree s roots s.depth One roots.1 x))
    unfolding threshold_keys key_of
    both = ap₂ plus (share_is Zero roots.0) (share_is One roots.1) ∙ regroup _ _ _ _

    shares_add : s.alpha < 2 ^ s.depth → x < 2 ^ s.depth → plus (threshold_share e Zero tree (threshold_keys e tree s roots).0 x) (threshold_share e One tree (threshold_keys e tree s roots).1 x) ≡ threshold_value s.alpha s.beta x
    unfolding Sums
    shares_add al xs =
        let all = sums xs al s.depth (omega arith) in
        elim (walk e tree s roots s.depth pure x xs al (omega arith) s.depth (omega arith)) [
          | inl on ↦ let same : x ≡ s.alpha = sym (prefix_all s.depth x) ∙ on.same ∙ prefix_all s.depth s.alpha in
              both ∙ ap₂ plus (all ∙ ap (λ c. cond c s.beta 0) (ltb_same (prefix s.depth x s.depth) (prefix s.depth s.alpha s.depth) on.same)) (on_leaf e tree s roots s.depth x b on)
              ∙ alone s.beta b ∙ sym (ap (λ c. cond c s.beta 0) (leb_same x s.alpha same))
          | inr off ↦ let other : x ≢ s.alpha = λ q. off.other (prefix_all s.depth x ∙ q ∙ sym (prefix_all s.depth s.alpha)) in
              let c = ltb (prefix s.depth x s.depth) (prefix s.depth s.alpha s.depth) in
              both ∙ ap₂ plus all (off_leaf e tree s roots s.depth x pure off) ∙ whole c s.beta b
              ∙ ap (λ z. cond (ltb z (prefix s.depth s.alpha s.depth)) s.beta 0) (prefix_all s.depth x)
              ∙ ap (λ z. cond (ltb x z) s.beta 0) (prefix_all s.depth s.alpha)
              ∙ sym (ap (λ v. cond v s.beta 0) (leb_other x s.alpha other))
        ]

pub threshold_shares_add : (e : Meaning) → IsPure e → ThresholdSharesAdd e
threshold_shares_add e pure tree s roots x al b xs = shares_add e tree s roots pure b x al xs
