use Rattle.std.proofs.Common.{◌≡◌, map}
use Rattle.std.specs.List.{filter}
use Rattle.query_reader.specs.Matching.{is_kept}
use Rattle.count_sum.proofs.KeptRows.{rows_to}
use Rattle.keyed_rows.specs.KeyedRows.{keyed}
use Rattle.keyed_rows.proofs.rows.kept_with_keys.Given as goal

abbrev pub invariant-loop-row : goal.invariant-loop-row
invariant-loop-row l = l.keyed.items ≡ map (keyed l.checked l.table) (filter (is_kept l.checked.public) (rows_to l.table l.row))
