use Rattle.std.proofs.Common.{length, ap, arith}
use Rattle.interval_keys.specs.Merging.{add_span}
use Rattle.interval_keys.proofs.SlotSteps.{rest_end, rest_first, rest_last}
use Rattle.interval_keys.proofs.slots.add_interval.Goals as goal

pub loop-next-init : goal.loop-next-init
loop-next-init c = record {
  items = rest_first c.new-out.result.items c.args.interval c.args.disjoint.now c.new-out.ensures;
  count = let none = ap length c.new-out.ensures in omega arith;
}

pub returns-in-Some-clause-list : goal.returns-in-Some-clause-list
returns-in-Some-clause-list c =
    rest_last c.loop-next.out.items c.push.new.self.items c.in-Some.last c.args.disjoint.now (add_span c.args.interval c.args.disjoint.now) c.loop-next.next-index (omega arith)
    c.push.ensures.items (rw c.in-Some.is at c.loop-next.invariant.items)

pub returns-in_default-clause-list : goal.returns-in_default-clause-list
returns-in_default-clause-list c =
    rest_end c.loop-next.out.items c.args.disjoint.now (add_span c.args.interval c.args.disjoint.now) c.loop-next.next-index (omega arith)
    (rw c.in_default.is at c.loop-next.invariant.items)
