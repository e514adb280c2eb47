use Rattle.private_plan.proofs.PositionSlots.{bits_enough, slots_valid}
use Rattle.private_plan.proofs.secrets.second_secrets.Goals as goal

pub positions_secrets-requires-clause-slots : goal.positions_secrets-requires-clause-slots
positions_secrets-requires-clause-slots c = rw c.position_bits.ensures (slots_valid c.args.rows _ 0 c.args.counts.now (bits_enough c.args.rows c.requires.rows) c.requires.taken)
