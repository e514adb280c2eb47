use Rattle.tape_bijection.proofs.MappedLaws.{own_blocks_stay, own_leaves_stay}
use Rattle.tape_bijection.proofs.laws.kept_entries_stay.Goals as goal

pub returns-clause-blocks : goal.returns-clause-blocks
returns-clause-blocks c = λ e p from to q seed h. own_blocks_stay e p from to q seed h

pub returns-clause-leaves : goal.returns-clause-leaves
returns-clause-leaves c = λ e p from to q seed h. own_leaves_stay e p from to q seed h
