use Rattle.wire_frames.proofs.Splits as splits
use Rattle.wire_frames.proofs.laws.inputs_end_in_one_way.Goals as goal

pub returns : goal.returns
returns c = record {
  none = splits.none_does_not_go_on;
  part = splits.part_does_not_go_on;
  too_long = splits.too_long_does_not_go_on;
  apart = splits.too_long_is_no_part;
  one_part = splits.part_is_one;
  one_length = splits.too_long_is_one;
}
