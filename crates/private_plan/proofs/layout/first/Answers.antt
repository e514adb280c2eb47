use Rattle.std.proofs.Common.{arith}
use Rattle.private_plan.specs.Plans.{slot_trees, for_each_slot}
use Rattle.private_plan.proofs.Loops.{next_turn, no_turn}
use Rattle.private_plan.proofs.Counts.{slot_few, slots_few}
use Rattle.std.proofs.Common.{refl}
use Rattle.private_plan.proofs.layout.first.Goals as goal

pub loop-preserved : goal.loop-preserved
loop-preserved c =
    let sizes = c.args.sizes.now in
    let each = slot_trees sizes.kind sizes.range sizes.bits sizes.last_bits in
    let added = c.in_ok-push_first.ensures.trees in
    rw added (next_turn (λ i. each) c.loop.trees.items each (for_each_slot c.args.sizes.now.slots each) c.loop.counter c.args.sizes.now.slots c.loop-test.true refl c.loop.invariant)

pub returns-clause-few : goal.returns-clause-few
returns-clause-few c =
    let sizes = c.args.sizes.now in
    let each = slot_trees sizes.kind sizes.range sizes.bits sizes.last_bits in
    let short = slot_few sizes.kind sizes.range sizes.bits sizes.last_bits c.requires.narrow in
    slots_few sizes.slots each c.loop.trees.items c.requires.slots (omega (arith, short))
    (no_turn (λ i. each) c.loop.trees.items (for_each_slot sizes.slots each) c.loop.counter sizes.slots c.loop-test.false c.loop.invariant)
