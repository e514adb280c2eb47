use Rattle.std.proofs.Common.{◌≡◌, ◌-◌}
use Rattle.frame_fields.specs.Reading.{many_at}
use Rattle.frame_fields.proofs.Loop.{with_front}
use Rattle.key_frames.specs.KeyReading.{key_at}
use Rattle.key_frames.proofs.key_reading.keys.Given as goal

abbrev pub invariant-loop : goal.invariant-loop
invariant-loop l = with_front l.keys (many_at key_at (l.count - l.counter) l.fields) ≡ many_at key_at l.count l.fn.fields
