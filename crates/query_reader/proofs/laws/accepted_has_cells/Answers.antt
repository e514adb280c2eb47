use Rattle.query_reader.proofs.Known.{checked_fits, checked_width}
use Rattle.query_reader.proofs.laws.accepted_has_cells.Goals as goal

pub returns : goal.returns
returns c = record { fits = checked_fits; width = checked_width }
