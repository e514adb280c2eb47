use Rattle.tape_bijection.proofs.MapTrees.{Before}
use Rattle.tape_bijection.proofs.map.map_tape.Given as goal

abbrev pub invariant-loop-tree : goal.invariant-loop-tree
invariant-loop-tree l = Before l.fn.tape l.tape l.provider l.from l.to l.tree
