use Rattle.std.proofs.Common.{◌≡◌}
use Rattle.provider_core.specs.Layouts.{layout_differs}
use Rattle.provider_core.proofs.LayoutFaults.{left_differs}
use Rattle.provider_core.proofs.layout.layout_differs.Given as goal

abbrev pub invariant-loop-place : goal.invariant-loop-place
invariant-loop-place l = left_differs l.trees l.keys l.place ≡ layout_differs 0 l.trees l.keys
