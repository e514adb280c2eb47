use Rattle.frame_fields.proofs.Pieces.{wrote_then}
use Rattle.key_frames.specs.Keys.{threshold_level}
use Rattle.key_frames.proofs.key_writing.put_level.Goals as goal

pub returns-clause-written : goal.returns-clause-written
unfolding threshold_level
returns-clause-written c = wrote_then c.in_ok-put_correction.ensures.written (wrote_then c.in_ok-put64.ensures c.in_ok-put64-2.ensures)
