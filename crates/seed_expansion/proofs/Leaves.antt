-- The two shares at the end of a walk, and the last word that a loop along alpha makes.
use Rattle.std.proofs.Common.{◌≡◌, ℕ, ◌^◌, ◌<◌, ap, ap₂, ◌∙◌}
use Rattle.std.proofs.Math.Nat.{mod-eq_of_lt}
use Rattle.spl_words.specs.declared.provider.Provider.{Provider}
use Rattle.spl_words.specs.declared.provider.Provider.TheVariants.{Zero, One}
use Rattle.spl_words.specs.Words.{plus}
use Rattle.spl_words.specs.Secrets.{Secret}
use Rattle.seed_expansion.specs.declared.nodes.Node.{Node}
use Rattle.seed_expansion.specs.Expanders.{Meaning, IsPure}
use Rattle.seed_expansion.specs.Walk.{path, place, prefix}
use Rattle.seed_expansion.specs.Leaves.{last_of, last_word, leaf_share}
use Rattle.seed_expansion.proofs.Steps.{leaf_adds, leaf_cancels}
use Rattle.seed_expansion.proofs.Walk.{OnPath, OffPath, held, path_bits}

-- n is the number of levels
module _ (e : Meaning) (tree : ℕ) (s : Secret) (roots : ℕ × ℕ) (n : ℕ) where
  -- the share of provider p at a leaf where it holds m
  unfoldable pub leaf_of : Provider → ℕ → Node → ℕ
  leaf_of p pre m = leaf_share p m.bit (e.leaf (record { tree = tree; provider = p; level = n; prefix = pre }) m.seed) (last_of e tree s n (path e tree s roots n))

  -- the share of provider p at x
  abbrev pub share_at : Provider → ℕ → ℕ → ℕ
  share_at p root x = leaf_of p (prefix s.depth x n) (held e tree s roots n p root x n)

  module _ (x : ℕ) where
    pub on_leaf : s.beta < 2 ^ 64 → OnPath e tree s roots n x n → plus (share_at Zero roots.0 x) (share_at One roots.1 x) ≡ s.beta
    unfolding last_of leaf_of
    on_leaf b on =
        let m = path e tree s roots n in
        let w0 = e.leaf (place tree Zero s.depth s.alpha n) m.0.seed in
        let w1 = e.leaf (place tree One s.depth s.alpha n) m.1.seed in
        ap₂ plus (ap₂ (leaf_of Zero) on.same on.zero_is) (ap₂ (leaf_of One) on.same on.one_is)
        ∙ ap (λ t. plus (leaf_share Zero m.0.bit w0 (last_word s.beta m.0.bit t w0 w1)) (leaf_share One t w1 (last_word s.beta m.0.bit t w0 w1))) (path_bits e tree s roots n)
        ∙ leaf_adds m.0.bit w0 w1 s.beta ∙ mod-eq_of_lt b

    pub off_leaf : IsPure e → OffPath e tree s roots n x n → plus (share_at Zero roots.0 x) (share_at One roots.1 x) ≡ 0
    unfolding leaf_of
    off_leaf pure off =
        let pre = prefix s.depth x n in
        let m = held e tree s roots n One roots.1 x n in
        let last = last_of e tree s n (path e tree s roots n) in
        ap (λ v. plus v (leaf_of One pre m))
        (ap (leaf_of Zero pre) off.equal ∙ ap (λ w. leaf_share Zero m.bit w last) (pure.leaves (place tree Zero s.depth x n) (place tree One s.depth x n) m.seed))
        ∙ leaf_cancels m.bit (e.leaf (place tree One s.depth x n) m.seed) last

-- what a loop along alpha ends with, and what follows it
pub record Ends (e : Meaning) (tree : ℕ) (s : Secret) (roots : ℕ × ℕ) (level w0 w1 last : ℕ) (zero one : Node) : Type 0 where
  pub end : level ≡ s.depth
  pub zero_is : zero ≡ (path e tree s roots level).0
  pub one_is : one ≡ (path e tree s roots level).1
  pub w0_is : w0 ≡ e.leaf (place tree Zero s.depth s.alpha s.depth) zero.seed
  pub w1_is : w1 ≡ e.leaf (place tree One s.depth s.alpha s.depth) one.seed
  pub last_is : last ≡ last_word s.beta zero.bit one.bit w0 w1

pub last_made : {e : Meaning} {tree : ℕ} {s : Secret} {roots : ℕ × ℕ} {level w0 w1 last : ℕ} {zero one : Node} → Ends e tree s roots level w0 w1 last zero one → last ≡ last_of e tree s s.depth (path e tree s roots s.depth)
unfolding last_of
last_made ends = cc (ends.end, ends.zero_is, ends.one_is, ends.w0_is, ends.w1_is, ends.last_is)
