use Rattle.session_model.specs.Counts.{rows_back_second}
use Rattle.session_model.proofs.BackRows.{each_few}
use Rattle.session_model.proofs.SecondCells.{second_picked}
use Rattle.session_model.proofs.position_laws.second_rows_are_of_the_table.Goals as goal

pub returns : goal.returns
returns c = record {
  picked = second_picked;
  few = λ checked table params. each_few table (rows_back_second checked table params) (second_picked checked table params);
}
