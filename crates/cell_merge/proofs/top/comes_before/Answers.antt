use Rattle.std.proofs.Common.{arith}
use Rattle.std.proofs.lemmas.Bool.Decides.{nat_tests}
use Rattle.cell_merge.specs.Entries.{before}
use Rattle.cell_merge.proofs.top.comes_before.Goals as goal

pub returns-then-y-x : goal.returns-then-y-x
unfolding before
returns-then-y-x c = grind (arith, nat_tests)

pub returns-then-x-y : goal.returns-then-x-y
unfolding before
returns-then-x-y c = grind (arith, nat_tests)

pub returns-else-x-y : goal.returns-else-x-y
unfolding before
returns-else-x-y c = grind (arith, nat_tests)
