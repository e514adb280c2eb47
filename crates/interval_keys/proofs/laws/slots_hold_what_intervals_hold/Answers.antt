use Rattle.interval_keys.proofs.SlotLaws.{held_slots, slots_apart, value_slots}
use Rattle.interval_keys.proofs.laws.slots_hold_what_intervals_hold.Goals as goal

pub returns : goal.returns
returns c = record { apart = slots_apart; held = held_slots; value = value_slots }
