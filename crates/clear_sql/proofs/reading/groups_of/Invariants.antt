use Rattle.std.proofs.Common.{◌≡◌, ◌*◌, ◌-◌, ◌++◌, drop}
use Rattle.clear_sql.specs.CellAnswers.{BlocksRead, groups_of}
use Rattle.clear_sql.proofs.reading.groups_of.Given as goal

abbrev pub invariant-loop-label : goal.invariant-loop-label
invariant-loop-label l = record {
  reads : BlocksRead l.columns l.items (l.labels - l.label) (drop (l.label * l.words) l.cell);
  groups : groups_of l.columns l.items 0 l.labels l.cell ≡ l.groups.items ++ groups_of l.columns l.items l.label (l.labels - l.label) (drop (l.label * l.words) l.cell);
}
