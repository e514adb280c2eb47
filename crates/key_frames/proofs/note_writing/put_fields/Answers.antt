use Rattle.frame_fields.proofs.Pieces.{wrote_then}
use Rattle.key_frames.specs.Notes.{note_body}
use Rattle.key_frames.proofs.note_writing.put_fields.Goals as goal

pub returns : goal.returns
unfolding note_body
returns c =
    rw (← c.as_slice-query.ensures, ← c.in_ok-shape.ensures, ← c.as_slice-text.ensures, ← c.as_slice-params.ensures) (wrote_then c.in_ok-put_magic.ensures (wrote_then c.in_ok-put8.ensures (wrote_then c.in_ok-put8-2.ensures (wrote_then c.in_ok-put128.ensures (wrote_then c.in_ok-put16.ensures (wrote_then c.in_ok-put_bytes.ensures (wrote_then c.in_ok-put16-2.ensures (wrote_then c.in_ok-put_bytes-2.ensures (wrote_then c.in_ok-put8-3.ensures (wrote_then c.in_ok-put_params.ensures (wrote_then c.in_ok-put_bytes-3.ensures (wrote_then c.in_ok-put_bytes-4.ensures c.in_ok-put_bytes-5.ensures))))))))))))
