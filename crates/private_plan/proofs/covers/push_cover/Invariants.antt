use Rattle.std.proofs.Common.{◌≡◌, ◌-◌, ◌++◌}
use Rattle.std.specs.List.{flat_map, range_with_len}
use Rattle.private_plan.specs.Slots.{cover_secrets, level_secrets, slot_level}
use Rattle.private_plan.proofs.covers.push_cover.Given as goal

abbrev pub invariant-loop-level : goal.invariant-loop-level
invariant-loop-level l =
    l.secrets.items ++ flat_map (λ j. level_secrets (l.bits - j) (slot_level l.width l.fn.slot j)) (range_with_len l.level (l.width - l.level))
    ≡ l.initial.secrets.items ++ cover_secrets l.bits l.width l.fn.slot
