use Rattle.std.proofs.Common.{◌≡◌, ◌-◌, ◌^◌, ◌≤◌, nat_le}
use Rattle.std.specs.Prelude.{unwrap_or, find}
use Rattle.std.specs.List.{range_with_len}
use Rattle.private_plan.specs.Plans.{position_bits}
use Rattle.private_plan.proofs.layout.position_bits.Given as goal

abbrev pub invariant-loop-bits : goal.invariant-loop-bits
invariant-loop-bits l = (l.bits ≤ 18) × (unwrap_or (find (λ q. nat_le l.rows (2 ^ q)) (range_with_len l.bits (19 - l.bits))) 18 ≡ position_bits l.rows)
