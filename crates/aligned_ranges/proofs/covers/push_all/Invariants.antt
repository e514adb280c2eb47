use Rattle.std.proofs.Common.{◌≡◌, ◌+◌, ◌-◌, ◌≤◌, ◌++◌, length, map}
use Rattle.std.specs.List.{range_with_len}
use Rattle.aligned_ranges.specs.Covers.{range}
use Rattle.aligned_ranges.proofs.covers.push_all.Given as goal

abbrev pub invariant-loop-k : goal.invariant-loop-k
invariant-loop-k l = record {
  items : l.ranges.items ≡ l.initial.ranges.items ++ map (λ k. range l.level (l.base + k)) (range_with_len l.start (l.k - l.start));
  count : length l.ranges.items ≡ length l.initial.ranges.items + (l.k - l.start);
  most : l.k - l.start ≤ l.end - l.start;
}
