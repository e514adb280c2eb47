use Rattle.std.proofs.Common.{◌≡◌, map}
use Rattle.std.specs.List.{filter}
use Rattle.query_reader.specs.Matching.{is_kept}
use Rattle.count_sum.specs.SumPairs.{joined_key}
use Rattle.count_sum.proofs.KeptRows.{rows_to}
use Rattle.provider_core.proofs.ones.kept_keys.Given as goal

abbrev pub invariant-loop-row : goal.invariant-loop-row
invariant-loop-row l = l.keys.items ≡ map (joined_key l.checked l.table) (filter (is_kept l.checked.public) (rows_to l.table l.row))
