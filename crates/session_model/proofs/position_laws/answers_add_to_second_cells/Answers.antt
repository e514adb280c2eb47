use Rattle.session_model.proofs.SecondCells.{second_added, second_length, second_planned, second_small}
use Rattle.session_model.proofs.position_laws.answers_add_to_second_cells.Goals as goal

pub returns : goal.returns
returns c = record {
  length = λ e p checked table params roots valid accepted form known position same. second_length checked table params accepted form known valid position roots same e p;
  planned = second_planned;
  added = λ e pure checked table params roots valid accepted form known position same. second_added checked table params accepted form known valid position roots same e pure;
  cell_words = second_small;
}
