-- The two shares of a point key add to its function.
use Rattle.std.proofs.Common.{◌≡◌, ◌≢◌, inl, inr, ℕ, cond, sym, ap, ap₂, ◌∙◌, arith, eq-eqb, ne_eqb}
use Rattle.spl_words.specs.declared.provider.Provider.{Provider}
use Rattle.spl_words.specs.declared.provider.Provider.TheVariants.{Zero, One}
use Rattle.spl_words.specs.Words.{plus}
use Rattle.spl_words.specs.Secrets.{Secret}
use Rattle.seed_expansion.specs.Expanders.{Meaning, IsPure}
use Rattle.seed_expansion.specs.Walk.{corrections, node, path, place}
use Rattle.seed_expansion.specs.Leaves.{last_of, leaf_share}
use Rattle.seed_expansion.proofs.Bits.{prefix_all}
use Rattle.seed_expansion.proofs.Walk.{walk, length-corrections}
use Rattle.seed_expansion.proofs.Leaves.{leaf_of, share_at, on_leaf, off_leaf}
use Rattle.point_keys.specs.Points.{point_keys, point_share, PointSharesAdd}

module _ (e : Meaning) (tree : ℕ) (s : Secret) (roots : ℕ × ℕ) (x : ℕ) where
  -- the share under the key of a root, for either provider
  share_is : (p : Provider) (root : ℕ) → point_share e p tree (record { root = root; levels = corrections e tree s roots s.depth; last = last_of e tree s s.depth (path e tree s roots s.depth) }) x ≡ share_at e tree s roots s.depth p root x
  unfolding point_share leaf_of
  share_is p root =
      let cs = corrections e tree s roots s.depth in
      let last = last_of e tree s s.depth (path e tree s roots s.depth) in
      let share : ℕ → ℕ = λ d. leaf_share p (node e p tree d root cs x d).bit (e.leaf (place tree p d x d) (node e p tree d root cs x d).seed) last in
      ap share (length-corrections e tree s roots s.depth)

  both : plus (point_share e Zero tree (point_keys e tree s roots).0 x) (point_share e One tree (point_keys e tree s roots).1 x) ≡ plus (share_at e tree s roots s.depth Zero roots.0 x) (share_at e tree s roots s.depth One roots.1 x)
  unfolding point_keys
  both = ap₂ plus (share_is Zero roots.0) (share_is One roots.1)

pub point_shares_add : (e : Meaning) → IsPure e → PointSharesAdd e
point_shares_add e pure tree s roots x al b xs =
    both e tree s roots x
    ∙ elim (walk e tree s roots s.depth pure x xs al (omega arith) s.depth (omega arith)) [
      | inl on ↦ let same : x ≡ s.alpha = sym (prefix_all s.depth x) ∙ on.same ∙ prefix_all s.depth s.alpha in
          on_leaf e tree s roots s.depth x b on ∙ sym (ap (λ v. cond v s.beta 0) (eq-eqb x s.alpha same))
      | inr off ↦ let other : x ≢ s.alpha = λ q. off.other (prefix_all s.depth x ∙ q ∙ sym (prefix_all s.depth s.alpha)) in
          off_leaf e tree s roots s.depth x pure off ∙ sym (ap (λ v. cond v s.beta 0) (ne_eqb x s.alpha other))
    ]
