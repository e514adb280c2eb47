use Rattle.provider_core.proofs.ShapeLines.{IsLine}
use Rattle.provider_core.proofs.shapes.first_line.Given as goal

abbrev pub invariant-loop-place : goal.invariant-loop-place
invariant-loop-place l = IsLine l.a l.b l.place l.line
