use Rattle.session_model.proofs.PositionSlots.{are_counts, positions_held}
use Rattle.session_model.proofs.position_laws.counts_tell_matching_rows.Goals as goal

pub returns : goal.returns
returns c = record {
  taken = are_counts;
  matching = positions_held;
}
