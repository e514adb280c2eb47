-- The seeds that the expanders give.
use Rattle.std.proofs.Common.{ℕ, ◌+◌, ◌*◌, ◌^◌, ◌<◌, List, arith}
use Rattle.rand_chacha.specs.Block.{block_word}
use Rattle.seed_expansion.specs.Toy.{toy}
use Rattle.seed_expansion.specs.ChaChaExpansion.{chacha, seed_bytes, word_of, seed_of_words}
use Rattle.client_rounds.specs.Expanding.{GivesSeeds}

word_small : (n : ℕ) (key : List ℕ) (counter nonce k : ℕ) → block_word n key counter nonce k < 2 ^ 32
unfolding block_word
word_small n key counter nonce k = omega arith

seed_small : (a b c d : ℕ) → a < 2 ^ 32 → b < 2 ^ 32 → c < 2 ^ 32 → d < 2 ^ 32 → (a * 2 ^ 32 + b) * 2 ^ 64 + (c * 2 ^ 32 + d) < 2 ^ 128
seed_small a b c d ha hb hc hd = omega arith

four_words : (seed : List ℕ) (i : ℕ) → seed_of_words seed i < 2 ^ 128
four_words seed i = seed_small (word_of seed i) (word_of seed (i + 1)) (word_of seed (i + 2)) (word_of seed (i + 2 + 1)) (word_small _ _ _ _ _) (word_small _ _ _ _ _) (word_small _ _ _ _ _) (word_small _ _ _ _ _)

pub chacha_seeds : GivesSeeds chacha
chacha_seeds = record { left = λ p s. four_words (seed_bytes 0x00 s) 0; right = λ p s. four_words (seed_bytes 0x00 s) 4 }

pub toy_seeds : GivesSeeds toy
toy_seeds = record { left = λ p s. omega arith; right = λ p s. omega arith }
