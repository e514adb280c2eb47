use Rattle.std.proofs.Common.{◌≡◌, ◌++◌, map, take}
use Rattle.spl_values.specs.ShapeTexts.{text_of_lines, column_line}
use Rattle.spl_values.proofs.shape_printer.push_columns.Given as goal

abbrev pub invariant-loop-column : goal.invariant-loop-column
invariant-loop-column l = l.text.items ≡ l.initial.text.items ++ text_of_lines (map column_line (take l.column-index l.columns))
