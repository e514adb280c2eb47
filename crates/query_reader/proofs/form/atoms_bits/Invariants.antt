use Rattle.std.proofs.Common.{◌≡◌, ◌+◌, ◌-◌, ◌^◌, ◌<◌, min, drop}
use Rattle.std.specs.List.{sum_by}
use Rattle.query_reader.specs.Columns.{column_bits}
use Rattle.query_reader.specs.Refusals.{atom_name}
use Rattle.query_reader.proofs.form.atoms_bits.Given as goal

abbrev pub invariant-loop-atom : goal.invariant-loop-atom
invariant-loop-atom l = (min (l.bits + sum_by (λ a. column_bits l.schema (atom_name a)) (drop l.atom-index l.atoms)) (2 ^ 64 - 1) ≡ min (sum_by (λ a. column_bits l.schema (atom_name a)) l.atoms) (2 ^ 64 - 1)) × (l.bits < 2 ^ 64)
