use Rattle.wire_frames.proofs.Splits as splits
use Rattle.wire_frames.proofs.laws.frames_are_read_once.Goals as goal

pub returns : goal.returns
returns c = splits.frames_are_read_once
