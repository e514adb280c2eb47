use Rattle.std.proofs.Common.{arith}
use Rattle.interval_keys.proofs.SlotSteps.{pad_end, pad_first, pad_first_count, pad_more}
use Rattle.interval_keys.proofs.slots.pad.Goals as goal

pub loop-i-init : goal.loop-i-init
loop-i-init c = record {
  items = pad_first c.args.disjoint.now c.loop-interval.out.items c.loop-interval.interval-index (omega arith) c.loop-interval.invariant;
  count = pad_first_count c.args.disjoint.now c.loop-interval.out.items c.loop-interval.interval-index (omega arith) c.loop-interval.invariant;
}

pub loop-i-preserved : goal.loop-i-preserved
loop-i-preserved c = record {
  items = pad_more c.args.disjoint.now c.loop-i.out.items c.push-in-loop-i.new.self.items c.loop-i._i (omega arith) c.loop-i.invariant.items c.push-in-loop-i.ensures.items;
  count = omega arith;
}

pub returns-clause-slots : goal.returns-clause-slots
returns-clause-slots c = pad_end c.args.disjoint.now c.loop-i.out.items c.loop-i._i c.args.count (omega arith) c.loop-i.invariant.items
