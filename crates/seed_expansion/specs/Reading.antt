-- Reading words from a generator.
use Rattle.std.specs.Prelude.{ℕ, ◌+◌, ◌*◌, ◌%◌, ◌^◌}
use Rattle.rand_chacha.specs.ChaCha.{ChaCha, word_at}

-- a generator that has moved on by n words
abbrev pub ahead : ℕ → ChaCha → ChaCha
ahead n g = record g { word_pos = (g.word_pos + n) % 2 ^ 68 }

-- the word at a generator's place
abbrev pub word_next : ChaCha → ℕ
word_next g = word_at 10 g.key g.stream g.word_pos

-- the number of the next two words, the high one first
abbrev pub wide_next : ChaCha → ℕ
wide_next g = word_next g * 2 ^ 32 + word_next (ahead 1 g)

-- the number of the next four words, the highest first
abbrev pub seed_next : ChaCha → ℕ
seed_next g = wide_next g * 2 ^ 64 + wide_next (ahead 2 g)
