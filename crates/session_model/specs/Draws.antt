-- The words that a session draws.
use Rattle.std.specs.Prelude.{ℕ, zero, suc, ◌+◌, ◌*◌, ◌^◌, List, [], ◌∷◌, drop}
use Rattle.spl_outside.specs.Content.{first_or_zero}

-- the word that is drawn after i others; zeros follow the last one
abbrev pub word_at : ℕ → List ℕ → ℕ
word_at i words = first_or_zero (drop i words)

-- the number of 128 bits that the next two words make, the high one first
abbrev pub wide : List ℕ → ℕ
wide words = word_at 0 words * 2 ^ 64 + word_at 1 words

-- the roots of a tree from the next four words, that of Zero first
abbrev pub tree_roots : List ℕ → ℕ × ℕ
tree_roots words = (wide words, wide (drop 2 words))

-- the roots of so many trees, one tree after another
unfoldable pub roots_of : ℕ → List ℕ → List (ℕ × ℕ)
roots_of zero words = []
roots_of (suc n) words = tree_roots words ∷ roots_of n (drop 4 words)
