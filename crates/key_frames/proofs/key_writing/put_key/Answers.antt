use Rattle.frame_fields.proofs.Pieces.{wrote_then}
use Rattle.key_frames.specs.Keys.{key}
use Rattle.key_frames.proofs.key_writing.put_key.Goals as goal

pub returns-in_ok-put_point-in-Point-clause-written : goal.returns-in_ok-put_point-in-Point-clause-written
unfolding key
returns-in_ok-put_point-in-Point-clause-written c = rw c.in-Point.is (wrote_then c.in_ok-put8-in-Point.ensures c.in_ok-put_point-in-Point.ensures.written)

pub returns-in_ok-put_threshold-in-Threshold-clause-written : goal.returns-in_ok-put_threshold-in-Threshold-clause-written
unfolding key
returns-in_ok-put_threshold-in-Threshold-clause-written c = rw c.in-Threshold.is (wrote_then c.in_ok-put8-in-Threshold.ensures c.in_ok-put_threshold-in-Threshold.ensures.written)
