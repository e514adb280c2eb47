use Rattle.std.proofs.Common.{◌≡◌, ◌-◌, ◌*◌, drop}
use Rattle.cell_merge.specs.TableRows.{row_in}
use Rattle.query_reader.specs.Matching.{some_branch_holds}
use Rattle.clear_sql.proofs.matching.some_branch_holds.Given as goal

abbrev pub invariant-loop-i : goal.invariant-loop-i
invariant-loop-i l =
    some_branch_holds (l.branches - l.i) l.columns l.range (drop (l.i * l.each) l.params) (row_in l.table l.row) ≡ some_branch_holds l.branches l.columns l.range l.params (row_in l.table l.row)
