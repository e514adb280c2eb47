use Rattle.std.proofs.Common.{◌≡◌, ◌++◌, List, drop}
use Rattle.csv.specs.Records.{fields_of}
use Rattle.spl_values.specs.declared.values.Value.{Value}
use Rattle.csv_tables.specs.Reading.{cells_of}
use Rattle.csv_tables.proofs.Fields.{with_front}
use Rattle.csv_tables.proofs.reading.push_row.Given as goal

abbrev pub invariant-loop-place : goal.invariant-loop-place
invariant-loop-place l =
    (values : List Value) × (l.cells.items ≡ l.initial.cells.items ++ values)
    × (cells_of l.number 0 l.columns (fields_of l.byte_record) ≡ with_front values (cells_of l.number l.place (drop l.place l.columns) (drop l.place (fields_of l.byte_record))))
