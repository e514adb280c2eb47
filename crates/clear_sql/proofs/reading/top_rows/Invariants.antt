use Rattle.std.proofs.Common.{◌≡◌, ◌*◌, ◌++◌, drop, map}
use Rattle.std.specs.List.{AllByRecursion}
use Rattle.cell_merge.specs.Entries.{entries_of}
use Rattle.clear_sql.specs.CellAnswers.{EntryReads, entry_row}
use Rattle.clear_sql.proofs.reading.top_rows.Given as goal

abbrev pub invariant-loop-i : goal.invariant-loop-i
invariant-loop-i l = record {
  rows : map (entry_row l.columns l.sort l.show) (entries_of l.words) ≡ l.rows.items ++ map (entry_row l.columns l.sort l.show) (entries_of (drop (3 * l.i) l.words));
  reads : AllByRecursion (EntryReads l.columns l.sort l.show) (entries_of (drop (3 * l.i) l.words));
}
