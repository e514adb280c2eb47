use Rattle.std.proofs.Common.{◌≡◌, ◌-◌, drop}
use Rattle.spl_values.specs.Tables.{key_bits}
use Rattle.private_plan.specs.Branches.{branch_span}
use Rattle.private_plan.proofs.branches.branch_span.Given as goal

abbrev pub invariant-loop-turn : goal.invariant-loop-turn
invariant-loop-turn l =
    (l.span ≡ branch_span l.schema.columns (drop (l.last - l.turn) l.places) l.range (drop (l.last - l.turn) l.params))
    × (l.bits ≡ key_bits l.schema.columns (drop (l.last - l.turn) l.places))
