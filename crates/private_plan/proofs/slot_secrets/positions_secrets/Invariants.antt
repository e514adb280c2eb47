use Rattle.std.proofs.Common.{◌≡◌, ◌++◌, IfSome}
use Rattle.std.specs.List.{AllByRecursion, flat_map}
use Rattle.std.specs.Slice.Iter.{chunks_exact_rest, chunks_exact_size}
use Rattle.private_plan.specs.Slots.{IsSlot, cover_secrets, position_slots}
use Rattle.private_plan.proofs.slot_secrets.positions_secrets.Given as goal

abbrev pub invariant-loop-pair : goal.invariant-loop-pair
invariant-loop-pair l =
    (goal.iterator-loop-pair).can_next l.pair-iterator
    × (goal.iterator-loop-pair).is_finite l.pair-iterator
    × (chunks_exact_size l.pair-iterator ≡ 2)
    × AllByRecursion (λ slot. IfSome slot (IsSlot l.bits l.bits)) (position_slots (chunks_exact_rest l.pair-iterator))
    × (l.secrets.items ++ flat_map (cover_secrets l.bits l.bits) (position_slots (chunks_exact_rest l.pair-iterator)) ≡ flat_map (cover_secrets l.bits l.bits) (position_slots l.counts))
