use Rattle.std.proofs.Common.{◌≡◌, ◌-◌, ◌++◌}
use Rattle.std.specs.List.{flat_map, range_with_len}
use Rattle.private_plan.specs.Plans.{slot_trees, for_each_slot}
use Rattle.private_plan.proofs.layout.first.Given as goal

abbrev pub invariant-loop : goal.invariant-loop
invariant-loop l = l.trees.items ++ flat_map (λ i. slot_trees l.sizes.kind l.sizes.range l.sizes.bits l.sizes.last_bits) (range_with_len l.counter (l.sizes.slots - l.counter)) ≡ for_each_slot l.sizes.slots (slot_trees l.sizes.kind l.sizes.range l.sizes.bits l.sizes.last_bits)
