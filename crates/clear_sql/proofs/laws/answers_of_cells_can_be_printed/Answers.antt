use Rattle.clear_sql.proofs.Printable.{cells_printable}
use Rattle.clear_sql.proofs.laws.answers_of_cells_can_be_printed.Goals as goal

pub returns : goal.returns
returns c = cells_printable
