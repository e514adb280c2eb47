use Rattle.std.proofs.Common.{◌-◌, ◌++◌, ap, ◌∙◌}
use Rattle.private_plan.specs.Slots.{cover_secrets, level_secrets, slot_level}
use Rattle.private_plan.proofs.CoverSecrets.{of_level}
use Rattle.private_plan.proofs.Loops.{next_turn}
use Rattle.private_plan.proofs.covers.push_cover.Goals as goal

pub push_level-requires-clause-indices : goal.push_level-requires-clause-indices
push_level-requires-clause-indices c = rw c.as_slice.ensures.value (c.cover_of-ranges.ensures.indices c.loop-level.level c.loop-level-test.true)

pub loop-level-preserved : goal.loop-level-preserved
loop-level-preserved c =
    let level = c.loop-level.level in
    let ranges = ap (of_level level) c.as_slice.ensures.value ∙ c.cover_of-ranges.ensures.levels level c.loop-level-test.true in
    rw c.in_ok-push_level.ensures
    (next_turn (λ j. level_secrets (c.args.bits - j) (slot_level c.args.width c.args.slot j)) c.loop-level.secrets.items (level_secrets (c.args.bits - level) (of_level level c.as_slice.result.now)) (c.args.secrets.now.items ++ cover_secrets c.args.bits c.args.width c.args.slot)
    level c.args.width c.loop-level-test.true (ap (level_secrets (c.args.bits - level)) ranges) c.loop-level.invariant)
