-- The one spelling of a key, and the keys that a frame may hold.
use Rattle.std.specs.Prelude.{ℕ, ◌+◌, ◌*◌, ◌<◌, ◌≤◌, ◌^◌, Bool, true, false, List, ◌++◌, length}
use Rattle.std.specs.List.{flat_map, AllByRecursion}
use Rattle.std.specs.Int.{w8, w64, w128, to_be_bytes}
use Rattle.seed_expansion.specs.declared.nodes.Correction.{Correction}
use Rattle.point_keys.specs.declared.keys.PointKey.{PointKey}
use Rattle.interval_keys.specs.declared.keys.ThresholdKey.{ThresholdKey}
use Rattle.interval_keys.specs.declared.keys.ThresholdLevel.{ThresholdLevel}
use Rattle.key_frames.specs.declared.keys.Key.{Key}
use Rattle.key_frames.specs.declared.keys.Key.TheVariants.{Point, Threshold}
use Rattle.key_frames.specs.Trees.{key_tree}

-- the byte of a level's two control bits: the left one is bit 0, the right one bit 1
abbrev pub bits_byte : Bool → Bool → ℕ
bits_byte false false = 0
bits_byte true false = 1
bits_byte false true = 2
bits_byte true true = 3

-- a level of a point key
unfoldable pub correction : Correction → List ℕ
correction c = to_be_bytes w128 c.seed ++ to_be_bytes w8 (bits_byte c.bit_l c.bit_r)

-- a level of a threshold key
unfoldable pub threshold_level : ThresholdLevel → List ℕ
threshold_level v = correction v.correction ++ (to_be_bytes w64 v.word_l ++ to_be_bytes w64 v.word_r)

-- a point key behind its kind
unfoldable pub point_key : PointKey → List ℕ
point_key k = to_be_bytes w8 (length k.levels) ++ (to_be_bytes w128 k.root ++ (flat_map correction k.levels ++ to_be_bytes w64 k.last))

-- a threshold key behind its kind
unfoldable pub threshold_key : ThresholdKey → List ℕ
threshold_key k = to_be_bytes w8 (length k.levels) ++ (to_be_bytes w128 k.root ++ (flat_map threshold_level k.levels ++ to_be_bytes w64 k.last))

-- the byte of a key's kind
abbrev pub kind_byte : Key → ℕ
kind_byte (Point k) = 0
kind_byte (Threshold k) = 1

-- what stands behind the kind
abbrev pub key_fields : Key → List ℕ
key_fields (Point k) = point_key k
key_fields (Threshold k) = threshold_key k

-- a key
unfoldable pub key : Key → List ℕ
key k = to_be_bytes w8 (kind_byte k) ++ key_fields k

-- the number of a key's levels
abbrev pub depth : Key → ℕ
depth k = (key_tree k).depth

-- the keys that a frame may hold: those of 1 to 128 levels
pub record KeyAllowed (k : Key) : Type 0 where
  pub some : 1 ≤ depth k
  pub count : depth k ≤ 128

-- what the types of a level's fields say
abbrev pub CorrectionTyped : Correction → Type 0
CorrectionTyped c = c.seed < 2 ^ 128

-- what the types of a threshold level's fields say
pub record LevelTyped (v : ThresholdLevel) : Type 0 where
  pub correction : CorrectionTyped v.correction
  pub word_l : v.word_l < 2 ^ 64
  pub word_r : v.word_r < 2 ^ 64

-- what the types of a point key's fields say
pub record PointTyped (k : PointKey) : Type 0 where
  pub root : k.root < 2 ^ 128
  pub levels : AllByRecursion CorrectionTyped k.levels
  pub last : k.last < 2 ^ 64

-- what the types of a threshold key's fields say
pub record ThresholdTyped (k : ThresholdKey) : Type 0 where
  pub root : k.root < 2 ^ 128
  pub levels : AllByRecursion LevelTyped k.levels
  pub last : k.last < 2 ^ 64

-- what the types of a key's fields say
abbrev pub KeyTyped : Key → Type 0
KeyTyped (Point k) = PointTyped k
KeyTyped (Threshold k) = ThresholdTyped k
