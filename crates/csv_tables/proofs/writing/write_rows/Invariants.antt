use Rattle.std.proofs.Common.{◌++◌, List, ℕ, map, take}
use Rattle.csv_tables.specs.Standing.{HasWritten}
use Rattle.csv_tables.specs.Writing.{fields_of_row, records_text}
use Rattle.csv_tables.proofs.writing.write_rows.Given as goal

abbrev pub invariant-loop-row : goal.invariant-loop-row
invariant-loop-row l =
    (text : List ℕ) → HasWritten l.initial.writer text
    → HasWritten l.writer (text ++ records_text (map (fields_of_row l.table.shape.schema.columns) (take l.row l.table.rows)))
