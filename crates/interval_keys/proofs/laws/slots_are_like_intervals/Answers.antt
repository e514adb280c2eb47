use Rattle.interval_keys.proofs.SlotLaws.{length-slots, single_slots, slots_below, valid_slots}
use Rattle.interval_keys.proofs.laws.slots_are_like_intervals.Goals as goal

pub returns : goal.returns
returns c = record { count = length-slots; spans = valid_slots; below = slots_below; single = single_slots }
