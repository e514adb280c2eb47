use Rattle.std.proofs.Common.{ap, ◌∙◌}
use Rattle.interval_keys.specs.Merging.{add_span}
use Rattle.interval_keys.proofs.SlotSteps.{none_allowed, some_allowed}
use Rattle.interval_keys.proofs.slots.add_branch.Goals as goal

pub returns-in-None-clause-list : goal.returns-in-None-clause-list
returns-in-None-clause-list c = λ l. rw c.in-None.is (none_allowed c.args.disjoint.items l)

pub returns-in-Some-clause-list : goal.returns-in-Some-clause-list
returns-in-Some-clause-list c = λ l.
    rw c.in-Some.is
    (some_allowed c.args.disjoint.items c.add_interval.result.items c.in-Some.interval l
    (c.add_interval.ensures.list ∙ ap (λ r. add_span c.in-Some.interval r) c.as_slice.ensures.value))
