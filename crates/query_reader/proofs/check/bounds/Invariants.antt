use Rattle.std.proofs.Common.{◌≡◌, ◌++◌, drop, map}
use Rattle.query_reader.specs.Accepted.{bound_of}
use Rattle.query_reader.proofs.check.bounds.Given as goal

abbrev pub invariant-loop-public : goal.invariant-loop-public
invariant-loop-public l = l.bounds.items ++ map (bound_of l.schema) (drop l.public-index l.publics) ≡ map (bound_of l.schema) l.publics
