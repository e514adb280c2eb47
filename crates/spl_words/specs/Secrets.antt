-- The secret of a tree, and the function that it stands for.
use Rattle.std.specs.Prelude.{ℕ, ◌%◌, ◌^◌, ◌<◌, cond, nat_eq, nat_le, List, sum_by}
use Rattle.spl_words.specs.declared.secret.KeySpec.{KeySpec}
use Rattle.spl_words.specs.declared.secret.TreeKind.{TreeKind}
use Rattle.spl_words.specs.declared.secret.TreeKind.TheVariants.{Point, Threshold}

-- a tree's kind, the bits of its numbers, and its secret number and word
pub record Secret : Type 0 where
  pub kind : TreeKind
  pub depth : ℕ
  pub alpha : ℕ
  pub beta : ℕ

-- the tree of a secret
abbrev pub secret_tree : Secret → KeySpec
secret_tree s = record { kind = s.kind; depth = s.depth }

-- its number has the bits of the tree's numbers, and its word is one
pub record IsSecret (s : Secret) : Type 0 where
  pub number : s.alpha < 2 ^ s.depth
  pub word : s.beta < 2 ^ 64

-- beta at alpha, and 0 elsewhere
abbrev pub point_value : ℕ → ℕ → ℕ → ℕ
point_value alpha beta x = cond (nat_eq x alpha) beta 0

-- beta up to alpha, and 0 above it
abbrev pub threshold_value : ℕ → ℕ → ℕ → ℕ
threshold_value alpha beta x = cond (nat_le x alpha) beta 0

-- the function of a secret: what the shares of its two keys add to at x
abbrev pub secret_value : Secret → ℕ → ℕ
secret_value s x = value s.kind where
  value : TreeKind → ℕ
  value Point = point_value s.alpha s.beta x
  value Threshold = threshold_value s.alpha s.beta x

-- what the functions of some secrets add to at x
abbrev pub secrets_value : List Secret → ℕ → ℕ
secrets_value secrets x = sum_by (λ s. secret_value s x) secrets % 2 ^ 64
