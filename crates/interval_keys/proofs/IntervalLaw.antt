-- The functions of a slot's two secrets add to 1 inside it and to 0 outside.
use Rattle.std.proofs.Common.{◌≡◌, ℕ, zero, suc, ◌+◌, ◌-◌, ◌^◌, ◌%◌, ◌≤◌, cond, ◌&&◌, leb, arith}
use Rattle.std.proofs.lemmas.Bool.Decides.{nat_tests}
use Rattle.interval_keys.specs.Intervals.{Span, SecretsAdd, EmptySecretsAdd}

from_zero : (hi x : ℕ) → (cond (leb x hi) 1 0 + cond (leb x 0) 0 0) % 2 ^ 64 ≡ cond (leb 0 x && leb x hi) 1 0
from_zero hi x = grind (arith, nat_tests)

from_above : (n hi x : ℕ) → suc n ≤ hi → (cond (leb x hi) 1 0 + cond (leb x n) (2 ^ 64 - 1) 0) % 2 ^ 64 ≡ cond (leb (suc n) x && leb x hi) 1 0
from_above n hi x h = grind (arith, nat_tests)

add_at : (bits lo hi : ℕ) → lo ≤ hi → SecretsAdd bits (record { lo = lo; hi = hi })
add_at bits zero hi h x = from_zero hi x
add_at bits (suc n) hi h x = from_above n hi x h

pub interval_adds : (bits : ℕ) (s : Span) → s.lo ≤ s.hi → SecretsAdd bits s
interval_adds bits s h = add_at bits s.lo s.hi h

pub empty_adds : (bits : ℕ) → EmptySecretsAdd bits
empty_adds bits x = grind (arith, nat_tests)
