use Rattle.std.proofs.Common.{◌≡◌, ◌/◌, ◌++◌, map, take, drop}
use Rattle.aligned_ranges.proofs.lifting.halved.Given as goal

abbrev pub invariant-loop-place : goal.invariant-loop-place
invariant-loop-place l = l.numbers.items ≡ map (λ n. n / 2) (take l.place l.fn.numbers.items) ++ drop l.place l.fn.numbers.items
