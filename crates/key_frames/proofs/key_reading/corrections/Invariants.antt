use Rattle.std.proofs.Common.{◌≡◌, ◌-◌}
use Rattle.frame_fields.specs.Reading.{many_at}
use Rattle.frame_fields.proofs.Loop.{with_front}
use Rattle.key_frames.specs.KeyReading.{correction_at}
use Rattle.key_frames.proofs.key_reading.corrections.Given as goal

abbrev pub invariant-loop : goal.invariant-loop
invariant-loop l = with_front l.levels (many_at correction_at (l.depth - l.counter) l.fields) ≡ many_at correction_at l.depth l.fn.fields
