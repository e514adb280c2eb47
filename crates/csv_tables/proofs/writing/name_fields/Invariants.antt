use Rattle.std.proofs.Common.{◌≡◌, take}
use Rattle.spl_values.specs.Shapes.{names_of}
use Rattle.csv_tables.proofs.writing.name_fields.Given as goal

abbrev pub invariant-loop-column : goal.invariant-loop-column
invariant-loop-column l = l.fields.items ≡ names_of (take l.column-index l.columns)
