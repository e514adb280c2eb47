use Rattle.std.proofs.Common.{◌≡◌, ◌+◌, ◌-◌, ◌*◌, ◌/◌, ◌^◌, ◌≤◌, ◌++◌, length}
use Rattle.std.specs.List.{flat_map, range_with_len}
use Rattle.aligned_ranges.specs.Covers.{cover, cover_level}
use Rattle.aligned_ranges.proofs.Ends.{Ends}
use Rattle.aligned_ranges.proofs.covers.cover.Given as goal

abbrev pub invariant-loop-level : goal.invariant-loop-level
invariant-loop-level l = record {
  items : l.ranges.items ++ flat_map (cover_level l.lo l.hi l.w) (range_with_len l.level (l.w - l.level)) ≡ cover l.lo l.hi l.w;
  count : length l.ranges.items ≤ 2 * l.level;
  ends : Ends l.lo l.hi l.level (l.base + l.start) (l.base + l.end);
  base : l.base ≡ l.lo / 2 ^ l.w * 2 ^ (l.w - l.level);
}
