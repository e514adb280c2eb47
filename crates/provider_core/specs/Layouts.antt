-- The layout of a frame's keys: the kind and the depth of each.
use Rattle.std.specs.Prelude.{ℕ, ◌+◌, ◌≡◌, ◌==◌, ◌&&◌, Bool, true, false, List, [], ◌∷◌, Option, None, Some, if◌then◌else◌}
use Rattle.spl_words.specs.declared.secret.TreeKind.{TreeKind}
use Rattle.spl_words.specs.declared.secret.TreeKind.TheVariants as tree
use Rattle.spl_words.specs.declared.secret.KeySpec.{KeySpec}
use Rattle.key_frames.specs.declared.keys.Key.{Key}
use Rattle.key_frames.specs.declared.keys.Key.TheVariants.{Point, Threshold}
use Rattle.key_frames.specs.Keys.{depth}

-- a key is of that kind
abbrev pub has_kind : TreeKind → Key → Bool
has_kind tree.Point (Point k) = true
has_kind tree.Threshold (Threshold k) = true
has_kind _ _ = false

-- a key is one of that tree: of its kind and depth
abbrev pub is_key_of : KeySpec → Key → Bool
is_key_of t k = has_kind t.kind k && (t.depth == depth k)

-- the first place, counted from i, at which keys aren't those of the trees; a key that is missing or too many differs at its place
unfoldable pub layout_differs : ℕ → List KeySpec → List Key → Option ℕ
layout_differs i [] [] = None
layout_differs i (t ∷ ts) (k ∷ ks) = if is_key_of t k then layout_differs (i + 1) ts ks else Some i
layout_differs i _ _ = Some i

-- a key is one of the tree that is there
abbrev pub IsPlaced : Option KeySpec → Key → Type 0
IsPlaced None k = ⊥
IsPlaced (Some t) k = is_key_of t k ≡ true
