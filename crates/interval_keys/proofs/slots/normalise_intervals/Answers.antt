use Rattle.std.proofs.Common.{length, ap, ◌∙◌, arith}
use Rattle.interval_keys.specs.Slots.{IsSpan, padded}
use Rattle.interval_keys.proofs.SlotSteps.{each_allowed, each_taken, slots_padded}
use Rattle.interval_keys.proofs.slots.normalise_intervals.Goals as goal

pub returns-clause-intervals : goal.returns-clause-intervals
returns-clause-intervals c = each_taken IsSpan c.args.branches.now c.loop-branch.branch-index (omega arith) c.loop-branch.invariant.intervals

pub returns-clause-slots : goal.returns-clause-slots
returns-clause-slots c =
    let all = each_taken IsSpan c.args.branches.now c.loop-branch.branch-index (omega arith) c.loop-branch.invariant.intervals in
    c.pad.ensures.slots
    ∙ (ap (λ l. padded (length c.args.branches.now) l) c.as_slice.ensures.value
    ∙ slots_padded c.args.branches.now c.loop-branch.disjoint.items c.loop-branch.branch-index (omega arith) (each_allowed IsSpan c.args.branches.now all) c.loop-branch.invariant.items)
