use Rattle.std.proofs.Common.{◌≡◌, ◌*◌, Some, true, [], length}
use Rattle.std.specs.Cmp.Lexicographic.{pointwise}
use Rattle.std.specs.Str.{bytes_eq}
use Rattle.csv.specs.Machine.{Read, next_record}
use Rattle.csv.specs.Reading.{default_config, records_from, strip_bom}
use Rattle.csv.specs.declared.parser.State.TheVariants as st
use Rattle.spl_values.specs.Shapes.{names_of}
use Rattle.csv_tables.proofs.Records.{Judged}
use Rattle.csv_tables.proofs.reading.read_cells.Given as goal

abbrev pub invariant-loop-number : goal.invariant-loop-number
invariant-loop-number l =
    (p : Read) × (next_record default_config st.StartRecord [] [] (strip_bom l.fn.bytes) ≡ Some p) × (pointwise bytes_eq p.0 (names_of l.columns) ≡ true)
    × Judged l.columns (records_from default_config (length (strip_bom l.fn.bytes)) p.1 p.2) l.reader l.number (l.stated * length l.columns) l.cells.items
