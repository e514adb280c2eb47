-- The shipped expander: the key stream of ChaCha with 20 rounds (RFC 8439), keyed by a node's seed.
use Rattle.std.specs.Prelude.{ℕ, ◌+◌, ◌*◌, ◌/◌, ◌%◌, ◌^◌, nat_eq, List, ◌++◌, replicate}
use Rattle.std.specs.Int.{w128, to_be_bytes}
use Rattle.rand_chacha.specs.ChaCha.{word_at, key_of}
use Rattle.seed_expansion.specs.declared.nodes.Block.{Block}
use Rattle.seed_expansion.specs.Expanders.{Meaning}

-- the 32 bytes of a key: the node's seed, highest byte first, and 16 times `fill`
unfoldable pub seed_bytes : ℕ → ℕ → List ℕ
seed_bytes fill s = to_be_bytes w128 s ++ replicate 16 fill

-- word i of 32 bits of a key's stream 0; ten double rounds are 20 rounds
abbrev pub word_of : List ℕ → ℕ → ℕ
word_of seed i = word_at 10 (key_of seed) 0 i

-- the number of the words i and i + 1, the high one first
abbrev pub wide_of : List ℕ → ℕ → ℕ
wide_of seed i = word_of seed i * 2 ^ 32 + word_of seed (i + 1)

-- the number of the four words from i on, the highest first
abbrev pub seed_of_words : List ℕ → ℕ → ℕ
seed_of_words seed i = wide_of seed i * 2 ^ 64 + wide_of seed (i + 2)

-- thirteen words: two seeds, one whose lowest two bits are the bits, and two words
abbrev pub chacha_block : ℕ → Block
chacha_block s =
    let seed = seed_bytes 0x00 s in
    let bits = word_of seed 8 in
    record {
      seed_l = seed_of_words seed 0;
      bit_l = nat_eq (bits % 2) 1;
      word_l = wide_of seed 9;
      seed_r = seed_of_words seed 4;
      bit_r = nat_eq (bits / 2 % 2) 1;
      word_r = wide_of seed 11;
    }

-- that block, and two words of another key as the leaf word
abbrev pub chacha : Meaning
chacha = record { block = λ _ s. chacha_block s; leaf = λ _ s. wide_of (seed_bytes 0x01 s) 0 }
