use Rattle.std.proofs.Common.{min}
use Rattle.cell_merge.proofs.merge.least_word.Goals as goal

pub returns : goal.returns
returns c = c.better.ensures min c.min.ensures
