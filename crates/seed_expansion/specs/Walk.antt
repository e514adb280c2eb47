-- The walk down a tree (Boyle, Gilboa and Ishai, Eurocrypt 2015): its places, nodes and corrections.
use Rattle.std.specs.Prelude.{ℕ, zero, suc, ◌+◌, ◌-◌, ◌/◌, ◌%◌, ◌^◌, Bool, true, false, not, cond, ◌&&◌, List, map, get_or, bit_xor, nat_eq}
use Rattle.std.specs.List.{range_with_len}
use Rattle.spl_words.specs.declared.provider.Provider.{Provider}
use Rattle.spl_words.specs.declared.provider.Provider.TheVariants.{Zero, One}
use Rattle.spl_words.specs.Secrets.{Secret}
use Rattle.seed_expansion.specs.declared.nodes.Place.{Place}
use Rattle.seed_expansion.specs.declared.nodes.Block.{Block}
use Rattle.seed_expansion.specs.declared.nodes.Correction.{Correction}
use Rattle.seed_expansion.specs.declared.nodes.Node.{Node}
use Rattle.seed_expansion.specs.Expanders.{Meaning}

-- the number made of the first i bits of x, the highest of `depth` bits first
abbrev pub prefix : ℕ → ℕ → ℕ → ℕ
prefix depth x i = x / 2 ^ (depth - i)

-- the side that the bit after the first i takes: false for the left one, true for the right one
abbrev pub side : ℕ → ℕ → ℕ → Bool
side depth x i = nat_eq (x / 2 ^ (depth - (i + 1)) % 2) 1

-- the place after i bits of x
abbrev pub place : ℕ → Provider → ℕ → ℕ → ℕ → Place
place tree p depth x i = record { tree = tree; provider = p; level = i; prefix = prefix depth x i }

-- the exclusive or of two bits
abbrev pub differ : Bool → Bool → Bool
differ false b = b
differ true b = not b

-- a block's seed on a side
abbrev pub seed_at : Bool → Block → ℕ
seed_at false b = b.seed_l
seed_at true b = b.seed_r

-- a block's bit on a side
abbrev pub bit_at : Bool → Block → Bool
bit_at false b = b.bit_l
bit_at true b = b.bit_r

-- a block's word on a side
abbrev pub word_at : Bool → Block → ℕ
word_at false b = b.word_l
word_at true b = b.word_r

-- a correction's bit on a side
abbrev pub corrected_bit_at : Bool → Correction → Bool
corrected_bit_at false c = c.bit_l
corrected_bit_at true c = c.bit_r

-- the child on a side of a node with this bit and block: where the bit is 1, corrected
unfoldable pub child : Bool → Bool → Block → Correction → Node
child d bit b c = record {
  seed = bit_xor (seed_at d b) (cond bit c.seed 0);
  bit = differ (bit_at d b) (bit && corrected_bit_at d c);
}

-- the correction of a level where alpha goes to the side `keep`: the seeds of the other side become equal, and the bits only on the other side
unfoldable pub correction : Bool → Block → Block → Correction
correction keep b0 b1 = record {
  seed = bit_xor (seed_at (not keep) b0) (seed_at (not keep) b1);
  bit_l = differ (differ b0.bit_l b1.bit_l) (not keep);
  bit_r = differ (differ b0.bit_r b1.bit_r) keep;
}

-- what stands past the end of a list of corrections
abbrev pub no_correction : Correction
no_correction = record { seed = 0; bit_l = false; bit_r = false }

-- a provider's bit at the root: 0 for Zero and 1 for One
abbrev pub root_bit : Provider → Bool
root_bit Zero = false
root_bit One = true

-- provider p's node after i bits of x, under a root and the corrections of the levels
unfoldable pub node : Meaning → Provider → ℕ → ℕ → ℕ → List Correction → ℕ → ℕ → Node
node e p tree depth root levels x zero = record { seed = root; bit = root_bit p }
node e p tree depth root levels x (suc i) =
    let n = node e p tree depth root levels x i in
    child (side depth x i) n.bit (e.block (place tree p depth x i) n.seed) (get_or levels i no_correction)

-- the correction of level i, from the nodes of both providers there
unfoldable pub correction_of : Meaning → ℕ → Secret → ℕ → Node × Node → Correction
correction_of e tree s i n =
    correction (side s.depth s.alpha i)
    (e.block (place tree Zero s.depth s.alpha i) n.0.seed)
    (e.block (place tree One s.depth s.alpha i) n.1.seed)

-- the nodes of both providers after i bits of alpha, under the corrections that are made on the way
unfoldable pub path : Meaning → ℕ → Secret → ℕ × ℕ → ℕ → Node × Node
path e tree s roots zero = (record { seed = roots.0; bit = root_bit Zero }, record { seed = roots.1; bit = root_bit One })
path e tree s roots (suc i) =
    let n = path e tree s roots i in
    let c = correction_of e tree s i n in
    let d = side s.depth s.alpha i in (
      child d n.0.bit (e.block (place tree Zero s.depth s.alpha i) n.0.seed) c,
      child d n.1.bit (e.block (place tree One s.depth s.alpha i) n.1.seed) c,
    )

-- the corrections of the first n levels
unfoldable pub corrections : Meaning → ℕ → Secret → ℕ × ℕ → ℕ → List Correction
corrections e tree s roots n = map (λ i. correction_of e tree s i (path e tree s roots i)) (range_with_len 0 n)
