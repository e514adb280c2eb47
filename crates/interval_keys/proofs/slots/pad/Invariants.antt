use Rattle.std.proofs.Common.{◌≡◌, ◌-◌, ◌++◌, length, map, replicate, take, Some, None}
use Rattle.interval_keys.proofs.slots.pad.Given as goal

abbrev pub invariant-loop-interval : goal.invariant-loop-interval
invariant-loop-interval l = l.out.items ≡ map (λ s. Some s) (take l.interval-index l.disjoint)

abbrev pub invariant-loop-i : goal.invariant-loop-i
invariant-loop-i l = record {
  items : l.out.items ≡ map (λ s. Some s) l.disjoint ++ replicate (l._i - length l.disjoint) None;
  count : length l.out.items ≡ l._i;
}
