use Rattle.std.proofs.Common.{◌≡◌, ◌-◌, ◌++◌}
use Rattle.std.specs.List.{flat_map, range_with_len}
use Rattle.private_plan.specs.Plans.{second_trees, for_each_slot}
use Rattle.private_plan.proofs.layout.second.Given as goal

abbrev pub invariant-loop : goal.invariant-loop
invariant-loop l = l.trees.items ++ flat_map (λ i. second_trees l.sizes.kind l.sizes.rows) (range_with_len l.counter (l.sizes.slots - l.counter)) ≡ for_each_slot l.sizes.slots (second_trees l.sizes.kind l.sizes.rows)
