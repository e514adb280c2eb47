use Rattle.frame_fields.proofs.Pieces.{wrote_then}
use Rattle.key_frames.specs.Keys.{correction}
use Rattle.key_frames.proofs.key_writing.put_correction.Goals as goal

pub returns-clause-written : goal.returns-clause-written
unfolding correction
returns-clause-written c = rw (← c.bits_of.ensures) (wrote_then c.in_ok-put128.ensures c.in_ok-put8.ensures)
