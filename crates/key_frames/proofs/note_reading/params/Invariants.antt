use Rattle.std.proofs.Common.{◌≡◌, ◌-◌}
use Rattle.std.specs.Int.{w128}
use Rattle.frame_fields.specs.Reading.{number_at, many_at}
use Rattle.frame_fields.proofs.Loop.{with_front}
use Rattle.key_frames.proofs.note_reading.params.Given as goal

abbrev pub invariant-loop : goal.invariant-loop
invariant-loop l = with_front l.params (many_at (number_at w128) (l.count - l.counter) l.fields) ≡ many_at (number_at w128) l.count l.fn.fields
