-- The key frames of a round may be written.
use Rattle.std.proofs.Common.{◌≡◌, ℕ, suc, ◌+◌, ◌≤◌, List, [], ◌∷◌, length, None, refl, ap, arith}
use Rattle.std.specs.List.{AllByRecursion, position}
use Rattle.spl_words.specs.declared.provider.Provider.{Provider}
use Rattle.spl_words.specs.declared.secret.TreeKind.{TreeKind}
use Rattle.spl_words.specs.Secrets.{Secret, secret_tree}
use Rattle.spl_values.specs.Shapes.{ShapeParts}
use Rattle.seed_expansion.specs.Expanders.{Meaning}
use Rattle.key_frames.specs.Keys.{KeyAllowed}
use Rattle.key_frames.specs.Frames.{FrameAllowed}
use Rattle.key_frames.specs.Texts.{is_bad}
use Rattle.key_frames.specs.Trees.{key_of, key_list}
use Rattle.session_model.specs.Sessions.{frame_of}
use Rattle.key_frames.proofs.TreeLaws.{depth_same}
use Rattle.private_plan.proofs.FirstTrees.{HasDepth}

key_allowed : (kind : TreeKind) (e : Meaning) (p : Provider) (tree : ℕ) (s : Secret) (roots : ℕ × ℕ) → HasDepth 128 (secret_tree s) → KeyAllowed (key_of kind e p tree s roots)
key_allowed kind e p tree s roots h = let same = depth_same kind e p tree s roots in record { some = omega (arith, same, h.some); count = omega (arith, same, h.most) }

pub keys_allowed : (e : Meaning) (p : Provider) (tree : ℕ) (ss : List Secret) (rs : List (ℕ × ℕ)) → AllByRecursion (λ s. HasDepth 128 (secret_tree s)) ss → AllByRecursion KeyAllowed (key_list e p tree ss rs)
unfolding key_list
keys_allowed e p tree [] rs h = tt
keys_allowed e p tree (s ∷ ss) [] h = tt
keys_allowed e p tree (s ∷ ss) (r ∷ rs) h = (key_allowed s.kind e p tree s r h.0, keys_allowed e p (tree + 1) ss rs h.1)

pub length-keys : (e : Meaning) (p : Provider) (tree : ℕ) (ss : List Secret) (rs : List (ℕ × ℕ)) → length rs ≡ length ss → length (key_list e p tree ss rs) ≡ length ss
unfolding key_list
length-keys e p tree [] rs same = refl
length-keys e p tree (s ∷ ss) [] same = absurd (omega (arith, same))
length-keys e p tree (s ∷ ss) (r ∷ rs) same = ap (λ n. suc n) (length-keys e p (tree + 1) ss rs (omega (arith, same)))

-- what a round has to be so that its key frames may be written
pub record MayBeWritten (number : ℕ) (query : List ℕ) (secrets : List Secret) (roots : List (ℕ × ℕ)) : Type 0 where
  pub round : (1 ≤ number) × (number ≤ 2)
  pub query_length : (1 ≤ length query) × (length query ≤ 4096)
  pub printable : position is_bad query ≡ None
  pub trees : (1 ≤ length secrets) × (length secrets ≤ 512)
  pub depths : AllByRecursion (λ s. HasDepth 128 (secret_tree s)) secrets
  pub same : length roots ≡ length secrets

pub frame_allowed : (e : Meaning) (p : Provider) (session round tree : ℕ) (query : List ℕ) (shape : ShapeParts) (secrets : List Secret) (roots : List (ℕ × ℕ)) → MayBeWritten round query secrets roots
    → FrameAllowed (frame_of e p session round tree query shape secrets roots)
frame_allowed e p session round tree query shape secrets roots may =
    let count = length-keys e p tree secrets roots may.same in
    record {
      round = may.round;
      query_length = may.query_length;
      query = may.printable;
      count = (omega (arith, count, may.trees.0), omega (arith, count, may.trees.1));
      keys = keys_allowed e p tree secrets roots may.depths;
    }
