use Rattle.std.proofs.Common.{◌≡◌, ◌++◌, drop, get_or, []}
use Rattle.csv_tables.specs.Writing.{fields_of_row}
use Rattle.csv_tables.proofs.writing.row_fields.Given as goal

abbrev pub invariant-loop-number : goal.invariant-loop-number
invariant-loop-number l =
    fields_of_row l.table.shape.schema.columns (get_or l.table.rows l.row [])
    ≡ l.fields.items ++ fields_of_row (drop l.number l.table.shape.schema.columns) (drop l.number (get_or l.table.rows l.row []))
