use Rattle.frame_fields.proofs.Pieces.{wrote_then}
use Rattle.key_frames.specs.Keys.{threshold_key}
use Rattle.key_frames.proofs.key_writing.put_threshold.Goals as goal

pub returns-clause-written : goal.returns-clause-written
unfolding threshold_key
returns-clause-written c = rw (← c.as_slice-levels.ensures) (wrote_then c.in_ok-put8.ensures (wrote_then c.in_ok-put128.ensures (wrote_then c.in_ok-put_levels.ensures.written c.in_ok-put64.ensures)))
