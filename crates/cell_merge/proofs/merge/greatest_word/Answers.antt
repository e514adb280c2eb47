use Rattle.std.proofs.Common.{max}
use Rattle.cell_merge.proofs.merge.greatest_word.Goals as goal

pub returns : goal.returns
returns c = c.better.ensures max c.max.ensures
