-- Tapes: a block and a leaf word for each place, drawn without a seed.
use Rattle.std.specs.Prelude.{ℕ, ◌<◌, ◌^◌, Bool, false, ◌||◌, List, Option, Some, None, is_some}
use Rattle.std.specs.List.{list_any}
use Rattle.std.specs.declared.cmp.Ordering.{Ordering}
use Rattle.std.specs.Map.{lookup}
use Rattle.std.specs.BTreeMap.{is_at}
use Rattle.seed_expansion.specs.contracts.nodes.PlaceOrd.TheImpl as place_ord
use Rattle.seed_expansion.specs.declared.nodes.Place.{Place}
use Rattle.seed_expansion.specs.declared.nodes.Block.{Block}
use Rattle.seed_expansion.specs.Expanders.{Meaning}
use Rattle.seed_expansion.specs.Walk.{word_at}

-- the order of places: by tree, provider, level and prefix
abbrev pub place_cmp : Place → Place → Ordering
place_cmp = (place_ord.ghosts).cmp

-- what a tape holds: the blocks and the leaf words that are set, each list rising by place
pub record Entries : Type 0 where
  pub blocks : List (Place × Block)
  pub leaves : List (Place × ℕ)

-- the block that is set at a place
abbrev pub block_at : Entries → Place → Option Block
block_at t q = lookup (is_at (place_cmp q)) t.blocks

-- the leaf word that is set there
abbrev pub leaf_at : Entries → Place → Option ℕ
leaf_at t q = lookup (is_at (place_cmp q)) t.leaves

-- whether a tape has a block or a leaf word at a place
abbrev pub is_set : Entries → Place → Bool
is_set t q = is_some (block_at t q) || is_some (leaf_at t q)

-- whether a place stands in a list of places
abbrev pub has_place : List Place → Place → Bool
has_place places q = list_any (is_at (place_cmp q)) places

-- a block of zeros
abbrev pub no_block : Block
no_block = record { seed_l = 0; bit_l = false; word_l = 0; seed_r = 0; bit_r = false; word_r = 0 }

-- a block, or zeros where there is none
abbrev pub or_no_block : Option Block → Block
or_no_block None = no_block
or_no_block (Some b) = b

-- a word, or 0 where there is none
abbrev pub or_no_word : Option ℕ → ℕ
or_no_word None = 0
or_no_word (Some w) = w

-- what a tape gives: at each place what is set there, or zeros, whatever the seed
abbrev pub tape_meaning : Entries → Meaning
tape_meaning t = record {
  block = λ q _. or_no_block (block_at t q);
  leaf = λ q _. or_no_word (leaf_at t q);
}

-- an expander whose words are below 2 ^ 64
pub record HasWords (e : Meaning) : Type 0 where
  pub blocks : (q : Place) (seed : ℕ) (d : Bool) → word_at d (e.block q seed) < 2 ^ 64
  pub leaves : (q : Place) (seed : ℕ) → e.leaf q seed < 2 ^ 64
