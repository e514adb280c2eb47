-- Point keys (Boyle, Gilboa and Ishai, Eurocrypt 2015), their shares, and what the two shares add to.
use Rattle.std.specs.Prelude.{◌≡◌, ℕ, ◌^◌, ◌<◌, length}
use Rattle.spl_words.specs.declared.provider.Provider.{Provider}
use Rattle.spl_words.specs.declared.provider.Provider.TheVariants.{Zero, One}
use Rattle.spl_words.specs.Words.{plus}
use Rattle.spl_words.specs.Secrets.{Secret, point_value}
use Rattle.seed_expansion.specs.Expanders.{Meaning}
use Rattle.seed_expansion.specs.Walk.{corrections, node, path, place}
use Rattle.seed_expansion.specs.Leaves.{last_of, leaf_share}
use Rattle.point_keys.specs.declared.keys.PointKey.{PointKey}

-- the two keys of a point tree: each its own root, both the corrections along alpha and the last word there
unfoldable pub point_keys : Meaning → ℕ → Secret → ℕ × ℕ → PointKey × PointKey
point_keys e tree s roots =
    let levels = corrections e tree s roots s.depth in
    let last = last_of e tree s s.depth (path e tree s roots s.depth) in (
      record { root = roots.0; levels = levels; last = last },
      record { root = roots.1; levels = levels; last = last },
    )

-- provider p's share at x: that of the leaf which the bits of x lead to
unfoldable pub point_share : Meaning → Provider → ℕ → PointKey → ℕ → ℕ
point_share e p tree key x =
    let depth = length key.levels in
    let leaf = node e p tree depth key.root key.levels x depth in
    leaf_share p leaf.bit (e.leaf (place tree p depth x depth) leaf.seed) key.last

-- for each secret, all roots and each x of the secret's bits, the two shares add to beta at alpha and to 0 elsewhere
abbrev pub PointSharesAdd : Meaning → Type 0
PointSharesAdd e =
    (tree : ℕ) (s : Secret) (roots : ℕ × ℕ) (x : ℕ) → s.alpha < 2 ^ s.depth → s.beta < 2 ^ 64 → x < 2 ^ s.depth
    → plus (point_share e Zero tree (point_keys e tree s roots).0 x) (point_share e One tree (point_keys e tree s roots).1 x) ≡ point_value s.alpha s.beta x
