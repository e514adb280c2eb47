use Rattle.std.proofs.Common.{◌≡◌, ◌==◌, ◌+◌, ◌++◌, ◌≤◌, length, [], vec_len}
use Rattle.std.specs.List.{slice_split}
use Rattle.std.specs.Option.{option_map_or}
use Rattle.spl_values.proofs.shape_reader.read_labels.Given as goal

abbrev pub invariant-loop-left : goal.invariant-loop-left
invariant-loop-left l = record {
  split : slice_split (λ b. b == 124) l.fn.text ≡ l.labels.items ++ option_map_or (λ rest. slice_split (λ b. b == 124) rest.now) l.left [];
  few : vec_len l.labels ≤ 64;
}

abbrev pub decreases-loop-left : goal.decreases-loop-left
decreases-loop-left l = option_map_or (λ rest. length rest.now + 1) l.left 0
