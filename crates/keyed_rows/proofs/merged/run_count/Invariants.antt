use Rattle.std.proofs.Common.{◌≡◌, ◌≤◌, length, map, take}
use Rattle.spl_values.specs.Tables.{TableParts}
use Rattle.query_reader.specs.declared.checked.Checked.{Checked}
use Rattle.cell_runs.specs.Runs.{runs}
use Rattle.keyed_rows.specs.KeyedRows.{row_pair}
use Rattle.keyed_rows.proofs.Runs.{last_key}
use Rattle.keyed_rows.proofs.merged.run_count.Given as goal

abbrev pub invariant-loop-keyed : goal.invariant-loop-keyed
invariant-loop-keyed l = record {
  counted : (checked : Checked) (t : TableParts) → l.count ≡ length (runs checked.spec (map (row_pair checked t) (take l.keyed-index l.rows)));
  last : (checked : Checked) (t : TableParts) → l.last ≡ last_key (runs checked.spec (map (row_pair checked t) (take l.keyed-index l.rows)));
  few : l.count ≤ l.keyed-index;
}
