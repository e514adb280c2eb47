use Rattle.std.proofs.Common.{◌≡◌, length}
use Rattle.cell_merge.specs.Cells.{cell, cell_width}
use Rattle.cell_merge.specs.TableRows.{adds_in}
use Rattle.clear_sql.specs.FirstRows.{first_matching}
use Rattle.clear_sql.proofs.clear_answers.matching_cell.Given as goal

abbrev pub invariant-loop-row : goal.invariant-loop-row
invariant-loop-row l =
    (l.all.items ≡ cell (adds_in l.table.shape.schema.columns) l.checked.spec (first_matching l.checked l.params l.table l.row))
    × (length l.own.items ≡ cell_width l.checked.spec)
