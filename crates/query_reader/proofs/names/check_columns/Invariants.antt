use Rattle.std.proofs.Common.{◌≡◌, drop}
use Rattle.query_reader.specs.Refusals.{no_column}
use Rattle.query_reader.proofs.names.check_columns.Given as goal

abbrev pub invariant-loop-found : goal.invariant-loop-found
invariant-loop-found l = no_column (drop l.found-index l.uses) l.schema ≡ no_column l.uses l.schema
