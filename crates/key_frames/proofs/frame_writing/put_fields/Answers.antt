use Rattle.frame_fields.proofs.Pieces.{wrote_then}
use Rattle.key_frames.specs.Frames.{frame_body}
use Rattle.key_frames.proofs.frame_writing.put_fields.Goals as goal

pub returns-clause-written : goal.returns-clause-written
unfolding frame_body
returns-clause-written c =
    rw (← c.as_slice-query.ensures, ← c.in_ok-shape.ensures, ← c.as_slice-text.ensures, ← c.as_slice-keys.ensures) (wrote_then c.in_ok-put_magic.ensures (wrote_then c.in_ok-put8.ensures (wrote_then c.in_ok-put8-2.ensures (wrote_then c.in_ok-put_provider.ensures (wrote_then c.in_ok-put128.ensures (wrote_then c.in_ok-put16.ensures (wrote_then c.in_ok-put_bytes.ensures (wrote_then c.in_ok-put16-2.ensures (wrote_then c.in_ok-put_bytes-2.ensures (wrote_then c.in_ok-put16-3.ensures c.in_ok-put_keys.ensures.written))))))))))
