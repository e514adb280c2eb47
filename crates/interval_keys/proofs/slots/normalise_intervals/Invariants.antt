use Rattle.std.proofs.Common.{◌≡◌, ◌≤◌, [], drop, length, take}
use Rattle.interval_keys.specs.Slots.{EachSpan, IsSpan, allowed}
use Rattle.interval_keys.specs.Merging.{add_spans}
use Rattle.interval_keys.proofs.slots.normalise_intervals.Given as goal

abbrev pub invariant-loop-branch : goal.invariant-loop-branch
invariant-loop-branch l = record {
  items : add_spans l.disjoint.items (allowed (drop l.branch-index l.branches)) ≡ add_spans [] (allowed l.branches);
  count : length l.disjoint.items ≤ l.branch-index;
  intervals : EachSpan IsSpan (take l.branch-index l.branches);
}
