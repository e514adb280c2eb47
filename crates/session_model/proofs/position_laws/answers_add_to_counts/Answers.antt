use Rattle.session_model.proofs.CountWords.{count_added, count_length, counts_planned, counts_small}
use Rattle.session_model.proofs.position_laws.answers_add_to_counts.Goals as goal

pub returns : goal.returns
returns c = record {
  length = λ e p checked table params roots valid accepted form known position same. count_length checked table params accepted form known position valid roots same e p;
  planned = counts_planned;
  added = λ e pure checked table params roots valid accepted form known position same. count_added checked table params accepted form known position valid roots same e pure;
  count_words = counts_small;
}
