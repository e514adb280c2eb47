-- The words at the end of a walk, and the shares that they make.
use Rattle.std.specs.Prelude.{ℕ, Bool, true, false, cond}
use Rattle.spl_words.specs.declared.provider.Provider.{Provider}
use Rattle.spl_words.specs.declared.provider.Provider.TheVariants.{Zero, One}
use Rattle.spl_words.specs.Words.{plus, minus, times, signed}
use Rattle.spl_words.specs.Secrets.{Secret}
use Rattle.seed_expansion.specs.declared.nodes.Node.{Node}
use Rattle.seed_expansion.specs.Expanders.{Meaning}
use Rattle.seed_expansion.specs.Walk.{place}

-- a bit as a word
abbrev pub bit_word : Bool → ℕ
bit_word false = 0
bit_word true = 1

-- the word of a key that makes the two shares add to `goal`, from the bits and the words of Zero and One
unfoldable pub last_word : ℕ → Bool → Bool → ℕ → ℕ → ℕ
last_word goal t0 t1 w0 w1 = times (minus (bit_word t0) (bit_word t1)) (plus (minus goal w0) w1)

-- the last word of a tree with n levels, from the nodes of both providers there
unfoldable pub last_of : Meaning → ℕ → Secret → ℕ → Node × Node → ℕ
last_of e tree s n nodes =
    last_word s.beta nodes.0.bit nodes.1.bit
    (e.leaf (place tree Zero s.depth s.alpha n) nodes.0.seed)
    (e.leaf (place tree One s.depth s.alpha n) nodes.1.seed)

-- provider p's share from its bit, its word and the key's word, which counts where the bit is 1
unfoldable pub leaf_share : Provider → Bool → ℕ → ℕ → ℕ
leaf_share p bit word last = signed p (plus word (cond bit last 0))
