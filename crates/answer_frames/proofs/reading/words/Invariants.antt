use Rattle.std.proofs.Common.{◌≡◌, ◌-◌}
use Rattle.std.specs.Int.{w64}
use Rattle.frame_fields.specs.Reading.{number_at, many_at}
use Rattle.frame_fields.proofs.Loop.{with_front}
use Rattle.answer_frames.proofs.reading.words.Given as goal

abbrev pub invariant-loop : goal.invariant-loop
invariant-loop l = with_front l.words (many_at (number_at w64) (l.count - l.counter) l.fields) ≡ many_at (number_at w64) l.count l.fn.fields
