use Rattle.std.proofs.Common.{◌≡◌, ◌+◌, ◌≤◌, ◌++◌, drop, length}
use Rattle.interval_keys.specs.Merging.{add_span, rest_with, room_for}
use Rattle.interval_keys.proofs.slots.add_interval.Given as goal

abbrev pub invariant-loop-next : goal.invariant-loop-next
invariant-loop-next l = record {
  items : l.out.items ++ rest_with l.waiting (drop l.next-index l.disjoint) ≡ add_span l.fn.interval l.disjoint;
  count : length l.out.items + room_for l.waiting ≤ l.next-index + 1;
}
