-- Words, numbers modulo 2 ^ 64, and the two providers.
use Rattle.std.specs.Prelude.{ℕ, ◌+◌, ◌-◌, ◌*◌, ◌%◌, ◌^◌}
use Rattle.spl_words.specs.declared.provider.Provider.{Provider}
use Rattle.spl_words.specs.declared.provider.Provider.TheVariants.{Zero, One}

-- the sum of two words
abbrev pub plus : ℕ → ℕ → ℕ
plus a b = (a + b) % 2 ^ 64

-- the word that added to b gives a
abbrev pub minus : ℕ → ℕ → ℕ
minus a b = (a + (2 ^ 64 - b % 2 ^ 64)) % 2 ^ 64

-- the product of two words
abbrev pub times : ℕ → ℕ → ℕ
times a b = a * b % 2 ^ 64

-- the other one of the two providers
abbrev pub other : Provider → Provider
other Zero = One
other One = Zero

-- a provider's one of two
abbrev pub own : {A : Type 0} → Provider → A × A → A
own Zero both = both.0
own One both = both.1

-- a word with a provider's sign: itself for Zero, and 0 minus it for One
abbrev pub signed : Provider → ℕ → ℕ
signed Zero word = word
signed One word = minus 0 word
