use Rattle.clear_sql.proofs.MatchingCells.{matching_read, matching_clear}
use Rattle.clear_sql.proofs.laws.matching_cells_stand_for_clear_answers.Goals as goal

pub returns : goal.returns
returns c = record { read = matching_read; clear = matching_clear }
