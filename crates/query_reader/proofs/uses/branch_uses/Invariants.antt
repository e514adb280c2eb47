use Rattle.std.proofs.Common.{◌≡◌, ◌++◌, drop, map}
use Rattle.query_reader.specs.Uses.{atom_use}
use Rattle.query_reader.proofs.uses.branch_uses.Given as goal

abbrev pub invariant-loop-atom : goal.invariant-loop-atom
invariant-loop-atom l = l.uses.items ++ map atom_use (drop l.atom-index l.atoms) ≡ l.initial.uses.items ++ map atom_use l.atoms
