use Rattle.interval_keys.proofs.SlotEnds.{ends_in_order, starts_in_order}
use Rattle.interval_keys.proofs.laws.slot_ends_are_in_order.Goals as goal

pub returns : goal.returns
returns c = record { starts = starts_in_order; ends = ends_in_order }
