use Rattle.std.proofs.Common.{◌≡◌, drop}
use Rattle.std.specs.Cmp.Lexicographic.{pointwise}
use Rattle.std.specs.Str.{bytes_eq}
use Rattle.csv.specs.Records.{fields_of}
use Rattle.spl_values.specs.Shapes.{names_of}
use Rattle.csv_tables.proofs.reading.is_header.Given as goal

abbrev pub invariant-loop-place : goal.invariant-loop-place
invariant-loop-place l =
    pointwise bytes_eq (fields_of l.byte_record) (names_of l.columns) ≡ pointwise bytes_eq (drop l.place (fields_of l.byte_record)) (names_of (drop l.place l.columns))
