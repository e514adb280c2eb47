-- Reading keys from the front, with the first fault that is met.
use Rattle.std.specs.Prelude.{ℕ, zero, suc, Bool, Ok, ◌==◌, ◌||◌, nat_le}
use Rattle.std.specs.Int.{w8, w64, w128}
use Rattle.spl_words.specs.Cursor.{Spot}
use Rattle.spl_words.specs.Results.{◌>>=◌}
use Rattle.frame_fields.specs.Reading.{At, number_at, within_at, many_at}
use Rattle.seed_expansion.specs.declared.nodes.Correction.{Correction}
use Rattle.point_keys.specs.declared.keys.PointKey.{PointKey}
use Rattle.interval_keys.specs.declared.keys.ThresholdKey.{ThresholdKey}
use Rattle.interval_keys.specs.declared.keys.ThresholdLevel.{ThresholdLevel}
use Rattle.key_frames.specs.declared.keys.Key.{Key}
use Rattle.key_frames.specs.declared.keys.Key.TheVariants.{Point, Threshold}

-- bit 0 of a byte below 4
abbrev pub left_bit : ℕ → Bool
left_bit b = b == 1 || b == 3

-- bit 1 of a byte below 4
abbrev pub right_bit : ℕ → Bool
right_bit b = nat_le 2 b

-- a level of a point key: a seed, and a byte whose upper six bits are 0
unfoldable pub correction_at : Spot → At Correction
correction_at p = do
  seed ← number_at w128 p
  bits ← within_at w8 0 3 seed.1
  Ok (record { seed = seed.0; bit_l = left_bit bits.0; bit_r = right_bit bits.0 }, bits.1)

-- a level of a threshold key: a correction, and a word for each side
unfoldable pub level_at : Spot → At ThresholdLevel
level_at p = do
  c ← correction_at p
  l ← number_at w64 c.1
  r ← number_at w64 l.1
  Ok (record { correction = c.0; word_l = l.0; word_r = r.0 }, r.1)

-- a point key behind its kind
unfoldable pub point_at : Spot → At PointKey
point_at p = do
  depth ← within_at w8 1 128 p
  root ← number_at w128 depth.1
  levels ← many_at correction_at depth.0 root.1
  last ← number_at w64 levels.1
  Ok (record { root = root.0; levels = levels.0; last = last.0 }, last.1)

-- a threshold key behind its kind
unfoldable pub threshold_at : Spot → At ThresholdKey
threshold_at p = do
  depth ← within_at w8 1 128 p
  root ← number_at w128 depth.1
  levels ← many_at level_at depth.0 root.1
  last ← number_at w64 levels.1
  Ok (record { root = root.0; levels = levels.0; last = last.0 }, last.1)

-- a key of the kind with that number
abbrev pub of_kind : ℕ → Spot → At Key
of_kind zero p = do
  k ← point_at p
  Ok (Point k.0, k.1)
of_kind (suc n) p = do
  k ← threshold_at p
  Ok (Threshold k.0, k.1)

-- a key: its kind, and what stands behind it
unfoldable pub key_at : Spot → At Key
key_at p = do
  kind ← within_at w8 0 1 p
  of_kind kind.0 kind.1
