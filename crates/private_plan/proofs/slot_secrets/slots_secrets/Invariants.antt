use Rattle.std.proofs.Common.{◌≡◌, ◌++◌, drop}
use Rattle.std.specs.List.{flat_map}
use Rattle.private_plan.specs.Rounds.{first_secrets}
use Rattle.private_plan.proofs.slot_secrets.slots_secrets.Given as goal

abbrev pub invariant-loop-slot : goal.invariant-loop-slot
invariant-loop-slot l =
    let each = first_secrets l.sizes.kind l.sizes.range l.sizes.bits l.sizes.last_bits in
    l.secrets.items ++ flat_map each (drop l.slot-index l.slots) ≡ flat_map each l.slots
