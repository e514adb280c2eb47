use Rattle.std.proofs.Common.{◌≡◌, drop}
use Rattle.query_reader.specs.Refusals.{wrong_type}
use Rattle.query_reader.proofs.names.check_types.Given as goal

abbrev pub invariant-loop-found : goal.invariant-loop-found
invariant-loop-found l = wrong_type (drop l.found-index l.uses) l.schema ≡ wrong_type l.uses l.schema
