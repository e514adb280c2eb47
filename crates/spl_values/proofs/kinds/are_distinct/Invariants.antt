use Rattle.std.proofs.Common.{◌≡◌, drop}
use Rattle.spl_values.specs.Names.{is_distinct}
use Rattle.spl_values.proofs.kinds.are_distinct.Given as goal

abbrev pub invariant-loop-place : goal.invariant-loop-place
invariant-loop-place l = is_distinct l.labels ≡ is_distinct (drop l.place l.labels)
