use Rattle.frame_fields.proofs.Pieces.{wrote_then}
use Rattle.key_frames.specs.Keys.{point_key}
use Rattle.key_frames.proofs.key_writing.put_point.Goals as goal

pub returns-clause-written : goal.returns-clause-written
unfolding point_key
returns-clause-written c = rw (← c.as_slice-levels.ensures) (wrote_then c.in_ok-put8.ensures (wrote_then c.in_ok-put128.ensures (wrote_then c.in_ok-put_corrections.ensures.written c.in_ok-put64.ensures)))
