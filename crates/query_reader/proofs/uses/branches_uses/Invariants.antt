use Rattle.std.proofs.Common.{◌≡◌, ◌++◌, drop, map}
use Rattle.std.specs.List.{flat_map}
use Rattle.query_reader.specs.Uses.{atom_use}
use Rattle.query_reader.proofs.uses.branches_uses.Given as goal

abbrev pub invariant-loop-branch : goal.invariant-loop-branch
invariant-loop-branch l = l.uses.items ++ flat_map (map atom_use) (drop l.branch-index l.branches) ≡ l.initial.uses.items ++ flat_map (map atom_use) l.branches
