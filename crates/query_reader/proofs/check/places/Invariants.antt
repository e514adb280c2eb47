use Rattle.std.proofs.Common.{◌≡◌, ◌++◌, drop, map}
use Rattle.query_reader.specs.Columns.{place_of}
use Rattle.query_reader.specs.Refusals.{atom_name}
use Rattle.query_reader.proofs.check.places.Given as goal

abbrev pub invariant-loop-atom : goal.invariant-loop-atom
invariant-loop-atom l = l.places.items ++ map (λ a. place_of l.schema (atom_name a)) (drop l.atom-index l.atoms) ≡ map (λ a. place_of l.schema (atom_name a)) l.atoms
