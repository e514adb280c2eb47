use Rattle.std.proofs.Common.{◌≡◌, ◌++◌, drop, map}
use Rattle.query_reader.specs.Uses.{public_use}
use Rattle.query_reader.proofs.uses.publics_uses.Given as goal

abbrev pub invariant-loop-public : goal.invariant-loop-public
invariant-loop-public l = l.uses.items ++ map public_use (drop l.public-index l.publics) ≡ l.initial.uses.items ++ map public_use l.publics
