-- Along alpha both providers hold the nodes that the keys were made from; off it they hold one node.
use Rattle.std.proofs.Common.{◌≡◌, ◌≢◌, ◌⊎◌, inl, inr, [], ◌∷◌, ◌++◌, ℕ, zero, suc, ◌+◌, ◌<◌, ◌≤◌, ◌^◌, Bool, not, length, get_or, refl, sym, ap, ◌∙◌, arith, subst, add-one}
use Rattle.std.proofs.lemmas.List.FromFn.{map-range_with_len_more, length-map-range_with_len, get_or-map-range_with_len}
use Rattle.spl_words.specs.declared.provider.Provider.{Provider}
use Rattle.spl_words.specs.declared.provider.Provider.TheVariants.{Zero, One}
use Rattle.spl_words.specs.Secrets.{Secret}
use Rattle.seed_expansion.specs.declared.nodes.Node.{Node}
use Rattle.seed_expansion.specs.Expanders.{Meaning, IsPure}
use Rattle.seed_expansion.specs.Walk.{child, correction, correction_of, corrections, no_correction, path, node, place, prefix, side}
use Rattle.seed_expansion.proofs.Steps.{child_keeps, child_loses}
use Rattle.seed_expansion.proofs.Bits.{next_same, next_turned, next_other, prefix_none, same_bools}

module _ (e : Meaning) (tree : ℕ) (s : Secret) (roots : ℕ × ℕ) where
  -- on alpha's path the bits of the two providers are opposite
  pub path_bits : (i : ℕ) → (path e tree s roots i).1.bit ≡ not (path e tree s roots i).0.bit
  unfolding path correction_of
  path_bits zero = refl
  path_bits (suc i) =
      let n = path e tree s roots i in
      let b0 = e.block (place tree Zero s.depth s.alpha i) n.0.seed in
      let b1 = e.block (place tree One s.depth s.alpha i) n.1.seed in
      let d = side s.depth s.alpha i in
      ap (λ t. (child d t b1 (correction d b0 b1)).bit) (path_bits i) ∙ child_keeps d n.0.bit b0 b1

  pub length-corrections : (n : ℕ) → length (corrections e tree s roots n) ≡ n
  unfolding corrections
  length-corrections n = length-map-range_with_len (λ i. correction_of e tree s i (path e tree s roots i)) 0 n

  pub get_or-corrections : (n i : ℕ) → i < n → get_or (corrections e tree s roots n) i no_correction ≡ correction_of e tree s i (path e tree s roots i)
  unfolding corrections
  get_or-corrections n i h =
      get_or-map-range_with_len (λ i. correction_of e tree s i (path e tree s roots i)) 0 n i i no_correction h (omega arith)

  pub corrections-more : (n : ℕ) → corrections e tree s roots (n + 1) ≡ corrections e tree s roots n ++ correction_of e tree s n (path e tree s roots n) ∷ []
  unfolding corrections
  corrections-more n = map-range_with_len_more (λ i. correction_of e tree s i (path e tree s roots i)) 0 n n (omega arith)

  -- a step of a provider that holds m
  unfoldable pub step_of : Provider → Bool → ℕ → ℕ → Node → Node
  step_of p d pre i m = child d m.bit (e.block (record { tree = tree; provider = p; level = i; prefix = pre }) m.seed) (correction_of e tree s i (path e tree s roots i))

  pub path-more : (i : ℕ) → path e tree s roots (i + 1) ≡ (step_of Zero (side s.depth s.alpha i) (prefix s.depth s.alpha i) i (path e tree s roots i).0, step_of One (side s.depth s.alpha i) (prefix s.depth s.alpha i) i (path e tree s roots i).1)
  unfolding path step_of
  path-more i = ap (path e tree s roots) (add-one i)

  -- n is the number of a key's levels, which may be fewer than the bits
  module _ (n : ℕ) where
    -- provider p's node under its key
    abbrev pub held : Provider → ℕ → ℕ → ℕ → Node
    held p root x i = node e p tree s.depth root (corrections e tree s roots n) x i

    pub held-suc : (p : Provider) (root x i : ℕ) → i < n → held p root x (i + 1) ≡ step_of p (side s.depth x i) (prefix s.depth x i) i (held p root x i)
    unfolding node step_of
    held-suc p root x i h =
        let m = held p root x i in
        ap (held p root x) (add-one i)
        ∙ ap (child (side s.depth x i) m.bit (e.block (place tree p s.depth x i) m.seed)) (get_or-corrections n i h)

    -- where the first i bits of x are alpha's, each provider has its node of the path
    pub record OnPath (x i : ℕ) : Type 0 where
      pub same : prefix s.depth x i ≡ prefix s.depth s.alpha i
      pub zero_is : held Zero roots.0 x i ≡ (path e tree s roots i).0
      pub one_is : held One roots.1 x i ≡ (path e tree s roots i).1

    -- and else both have one node
    pub record OffPath (x i : ℕ) : Type 0 where
      pub other : prefix s.depth x i ≢ prefix s.depth s.alpha i
      pub equal : held Zero roots.0 x i ≡ held One roots.1 x i

    on_step : (x i : ℕ) → i < n → i < s.depth → OnPath x i → OnPath x (i + 1) ⊎ OffPath x (i + 1)
    unfolding step_of correction_of
    on_step x i l h on =
        let m = path e tree s roots i in
        let a = side s.depth s.alpha i in
        let pre = prefix s.depth s.alpha i in
        let moved_zero : (d : Bool) → side s.depth x i ≡ d → held Zero roots.0 x (i + 1) ≡ step_of Zero d pre i m.0 =
        λ d q. held-suc Zero roots.0 x i l ∙ ap (step_of Zero (side s.depth x i) (prefix s.depth x i) i) on.zero_is ∙ ap (λ z. step_of Zero (side s.depth x i) z i m.0) on.same ∙ ap (λ z. step_of Zero z pre i m.0) q in
        let moved_one : (d : Bool) → side s.depth x i ≡ d → held One roots.1 x (i + 1) ≡ step_of One d pre i m.1 =
        λ d q. held-suc One roots.1 x i l ∙ ap (step_of One (side s.depth x i) (prefix s.depth x i) i) on.one_is ∙ ap (λ z. step_of One (side s.depth x i) z i m.1) on.same ∙ ap (λ z. step_of One z pre i m.1) q in
        elim (same_bools (side s.depth x i) a) [
          | inl q ↦ inl (record {
            same = next_same s.depth x s.alpha i h on.same q;
            zero_is = moved_zero a q ∙ sym (ap (λ z. z.0) (path-more i));
            one_is = moved_one a q ∙ sym (ap (λ z. z.1) (path-more i));
          })
          | inr q ↦ inr (record {
            other = next_turned s.depth x s.alpha i q;
            equal = moved_zero (not a) q
                ∙ child_loses a m.0.bit (e.block (place tree Zero s.depth s.alpha i) m.0.seed) (e.block (place tree One s.depth s.alpha i) m.1.seed)
                ∙ ap (λ t. child (not a) t (e.block (place tree One s.depth s.alpha i) m.1.seed) (correction_of e tree s i m)) (sym (path_bits i))
                ∙ sym (moved_one (not a) q);
          })
        ]

    module _ (pure : IsPure e) where
      off_step : (x i : ℕ) → i < n → i < s.depth → OffPath x i → OffPath x (i + 1)
      unfolding step_of
      off_step x i l h off = record {
        other = next_other s.depth x s.alpha i h off.other;
        equal =
            let d = side s.depth x i in
            let m = held One roots.1 x i in
            held-suc Zero roots.0 x i l ∙ ap (step_of Zero d (prefix s.depth x i) i) off.equal
            ∙ ap (λ b. child d m.bit b (correction_of e tree s i (path e tree s roots i))) (pure.blocks (place tree Zero s.depth x i) (place tree One s.depth x i) m.seed)
            ∙ sym (held-suc One roots.1 x i l);
      }

      -- for each x below 2 ^ depth, after each number of levels, one of the two
      pub walk : (x : ℕ) → x < 2 ^ s.depth → s.alpha < 2 ^ s.depth → n ≤ s.depth → (i : ℕ) → i ≤ n → OnPath x i ⊎ OffPath x i
      unfolding node path
      walk x xs al ns zero h = inl (record { same = prefix_none s.depth x xs ∙ sym (prefix_none s.depth s.alpha al); zero_is = refl; one_is = refl })
      walk x xs al ns (suc i) h =
          let l : i < n = omega arith in
          let lt : i < s.depth = omega arith in
          subst (λ k. OnPath x k ⊎ OffPath x k) (add-one i)
          (elim (walk x xs al ns i (omega arith)) [ inl on ↦ on_step x i l lt on | inr off ↦ inr (off_step x i l lt off) ])
