use Rattle.std.proofs.Common.{◌≡◌, ◌≤◌, ◌*◌, take}
use Rattle.std.specs.List.{sum_by}
use Rattle.key_frames.specs.Trees.{tree_length as length_of_key}
use Rattle.private_plan.proofs.lengths.keys_length.Given as goal

abbrev pub invariant-loop-tree : goal.invariant-loop-tree
invariant-loop-tree l = (l.length ≡ sum_by length_of_key (take l.tree-index l.trees)) × (l.length ≤ l.tree-index * 4250)
