-- Covers: the largest aligned ranges that lie in an interval.
use Rattle.std.specs.Prelude.{ℕ, ◌+◌, ◌*◌, ◌/◌, ◌^◌, Bool, not, nat_le, ◌==◌, ◌&&◌, ◌||◌, List, map}
use Rattle.std.specs.List.{filter, flat_map, range_with_len}
use Rattle.aligned_ranges.specs.declared.ranges.Range.{Range}

-- the range of level j and index c: the numbers from c * 2 ^ j to (c + 1) * 2 ^ j - 1
abbrev pub range : ℕ → ℕ → Range
range j c = record { level = j; index = c }

-- whether a range holds x: x without as many of its lowest bits as the level says is the index
abbrev pub holds : ℕ → Range → Bool
holds x r = x / 2 ^ r.level == r.index

-- whether the numbers of the range of level j and index c all lie between lo and hi
abbrev pub lies_in : ℕ → ℕ → ℕ → ℕ → Bool
lies_in lo hi j c = nat_le lo (c * 2 ^ j) && nat_le ((c + 1) * 2 ^ j) (hi + 1)

-- whether the cover by levels below w has this range: it lies there, and it is of the highest level or its parent doesn't
abbrev pub in_cover : ℕ → ℕ → ℕ → ℕ → ℕ → Bool
in_cover lo hi w j c = lies_in lo hi j c && (j + 1 == w || not (lies_in lo hi (j + 1) (c / 2)))

-- the ranges of level j, by index; that of an index above hi has only numbers above hi
unfoldable pub cover_level : ℕ → ℕ → ℕ → ℕ → List Range
cover_level lo hi w j = map (range j) (filter (in_cover lo hi w j) (range_with_len 0 (hi + 1)))

-- the cover, by level and then by index
unfoldable pub cover : ℕ → ℕ → ℕ → List Range
cover lo hi w = flat_map (cover_level lo hi w) (range_with_len 0 w)
