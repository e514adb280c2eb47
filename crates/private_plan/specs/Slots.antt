-- The slots of a query, and the secrets of their trees.
use Rattle.std.specs.Prelude.{◌≡◌, ℕ, zero, suc, ◌-◌, ◌/◌, ◌^◌, ◌<◌, ◌≤◌, Bool, true, false, nat_lt, List, [], ◌∷◌, slice_get, Option, None, Some, if◌then◌else◌}
use Rattle.std.specs.List.{flat_map, range_with_len}
use Rattle.spl_words.specs.declared.secret.TreeKind.TheVariants.{Point}
use Rattle.spl_words.specs.Secrets.{Secret}
use Rattle.spl_values.specs.Shapes.{ColumnParts}
use Rattle.interval_keys.specs.Intervals.{Span, interval_secrets, threshold}
use Rattle.interval_keys.specs.Slots.{slots}
use Rattle.aligned_ranges.specs.Covers.{cover_level}
use Rattle.aligned_ranges.specs.declared.ranges.Range.{Range}
use Rattle.query_reader.specs.declared.checked.Checked.{Checked}
use Rattle.private_plan.specs.Branches.{branch_spans}

-- the slots of a query with these parameters: what its branches allow, as disjoint intervals
abbrev pub slots_of : Checked → List ColumnParts → List ℕ → List (Option Span)
slots_of checked columns params = slots (branch_spans columns checked.branches checked.columns checked.range params)

-- a slot of numbers of n bits, which agree above the lowest w
pub record IsSlot (n w : ℕ) (s : Span) : Type 0 where
  pub order : s.lo ≤ s.hi
  pub below : s.hi < 2 ^ n
  pub agree : s.lo / 2 ^ w ≡ s.hi / 2 ^ w

-- ---- the secrets of one slot

-- the word 1 at a number
abbrev pub point_at : ℕ → ℕ → Secret
point_at bits x = record { kind = Point; depth = bits; alpha = x; beta = 1 }

-- a point tree that is not used: 0 everywhere
abbrev pub unused_point : ℕ → Secret
unused_point bits = record { kind = Point; depth = bits; alpha = 0; beta = 0 }

-- a slot of one number
abbrev pub point_secret : ℕ → Option Span → Secret
point_secret bits None = unused_point bits
point_secret bits (Some s) = point_at bits s.lo

-- a sum's slot: an interval, or a single number
abbrev pub slot_secrets : Bool → ℕ → Option Span → List Secret
slot_secrets true bits slot = (interval_secrets bits slot).0 ∷ (interval_secrets bits slot).1 ∷ []
slot_secrets false bits slot = point_secret bits slot ∷ []

-- a tree for a range: the word 1 at its index, or an unused tree
abbrev pub range_secret : ℕ → Option Range → Secret
range_secret bits None = unused_point bits
range_secret bits (Some r) = point_at bits r.index

-- the two trees of a level: for its first range and for its second
abbrev pub level_secrets : ℕ → List Range → List Secret
level_secrets bits ranges = range_secret bits (slice_get ranges 0) ∷ range_secret bits (slice_get ranges 1) ∷ []

-- the ranges of level j in the cover of a slot by levels below w
abbrev pub slot_level : ℕ → Option Span → ℕ → List Range
slot_level w None j = []
slot_level w (Some s) j = cover_level s.lo s.hi w j

-- the cover of a slot of numbers of n bits by levels below w, level by level
abbrev pub cover_secrets : ℕ → ℕ → Option Span → List Secret
cover_secrets n w slot = flat_map (λ j. level_secrets (n - j) (slot_level w slot j)) (range_with_len 0 w)

-- the threshold that counts what is below a number; below 0 there is nothing
abbrev pub count_below : ℕ → ℕ → Secret
count_below bits zero = threshold bits 0 0
count_below bits (suc n) = threshold bits n 1

-- the two thresholds that count what is below a slot, and what is below or in it
abbrev pub count_secrets : ℕ → Option Span → List Secret
count_secrets bits None = threshold bits 0 0 ∷ threshold bits 0 0 ∷ []
count_secrets bits (Some s) = count_below bits s.lo ∷ threshold bits s.hi 1 ∷ []

-- a point over numbers of n bits without some of their lowest: the word 1 at a number, or an unused tree
pub record IsPointOf (n : ℕ) (s : Secret) : Type 0 where
  pub is_point : s.kind ≡ Point
  pub some : 1 ≤ s.depth
  pub inside : s.depth ≤ n
  pub number : s.alpha < 2 ^ s.depth
  pub once : s.beta ≤ 1

-- ---- the slots of positions

-- the positions from `below` on that are fewer than `upto`
abbrev pub position_slot : ℕ → ℕ → Option Span
position_slot below upto = if nat_lt below upto then Some (record { lo = below; hi = upto - 1 }) else None

-- the slots that the counts of a first round, two for each slot, tell
unfoldable pub position_slots : List ℕ → List (Option Span)
position_slots (below ∷ upto ∷ counts) = position_slot below upto ∷ position_slots counts
position_slots _ = []
