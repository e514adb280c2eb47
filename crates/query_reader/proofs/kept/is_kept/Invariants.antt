use Rattle.std.proofs.Common.{◌≡◌, drop}
use Rattle.cell_merge.specs.TableRows.{row_in}
use Rattle.query_reader.specs.Matching.{is_kept}
use Rattle.query_reader.proofs.kept.is_kept.Given as goal

abbrev pub invariant-loop-bound : goal.invariant-loop-bound
invariant-loop-bound l = is_kept (drop l.bound-index l.bounds) (row_in l.table l.row) ≡ is_kept l.bounds (row_in l.table l.row)
