-- The toy expander: sums of the seed, for rows that are worked by hand.
use Rattle.std.specs.Prelude.{ℕ, ◌+◌, ◌*◌, ◌/◌, ◌%◌, ◌^◌, nat_eq}
use Rattle.seed_expansion.specs.declared.nodes.Block.{Block}
use Rattle.seed_expansion.specs.Expanders.{Meaning}

-- the seed plus 1 and plus 2, its lowest two bits, and the seed and twice the seed as words
abbrev pub toy_block : ℕ → Block
toy_block s = record {
  seed_l = (s + 1) % 2 ^ 128;
  bit_l = nat_eq (s % 2) 1;
  word_l = s % 2 ^ 64;
  seed_r = (s + 2) % 2 ^ 128;
  bit_r = nat_eq (s / 2 % 2) 1;
  word_r = 2 * s % 2 ^ 64;
}

-- that block, and thrice the seed as the leaf word
abbrev pub toy : Meaning
toy = record { block = λ _ s. toy_block s; leaf = λ _ s. 3 * s % 2 ^ 64 }
