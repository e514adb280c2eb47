use Rattle.key_frames.proofs.TreeLaws.{folds_add}
use Rattle.key_frames.proofs.laws.both_words_of_a_fold_add.Goals as goal

pub returns : goal.returns
returns c = folds_add
