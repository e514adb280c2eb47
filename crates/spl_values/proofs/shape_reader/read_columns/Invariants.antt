use Rattle.std.proofs.Common.{◌≡◌, ◌≤◌, length, [], vec_len}
use Rattle.std.specs.Str.Lines.{lines}
use Rattle.spl_values.specs.ShapeTexts.{columns_of_lines}
use Rattle.spl_values.proofs.shape_reader.read_columns.Given as goal

abbrev pub invariant-loop-line : goal.invariant-loop-line
invariant-loop-line l = record {
  read : columns_of_lines [] (lines l.fn.text) ≡ columns_of_lines l.columns.items (lines l.left);
  few : vec_len l.columns ≤ 24;
}

abbrev pub decreases-loop-line : goal.decreases-loop-line
decreases-loop-line l = length l.left
