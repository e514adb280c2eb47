use Rattle.std.proofs.Common.{◌≡◌, ◌++◌, drop}
use Rattle.std.specs.List.{flat_map}
use Rattle.query_reader.specs.Params.{atom_marks}
use Rattle.query_reader.proofs.params.branch_marks.Given as goal

abbrev pub invariant-loop-atom : goal.invariant-loop-atom
invariant-loop-atom l = l.marks.items ++ flat_map (atom_marks l.schema) (drop l.atom-index l.atoms) ≡ l.initial.marks.items ++ flat_map (atom_marks l.schema) l.atoms
