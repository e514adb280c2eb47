-- Reading an answer frame from the front, with the first fault that is met.
use Rattle.std.specs.Prelude.{Ok, codes}
use Rattle.std.specs.Int.{w8, w32, w64, w128}
use Rattle.spl_words.specs.Cursor.{Spot}
use Rattle.spl_words.specs.Results.{◌>>=◌}
use Rattle.frame_fields.specs.Reading.{At, take_at, number_at, magic_at, version_at, within_at, provider_at, many_at}
use Rattle.answer_frames.specs.declared.answer.AnswerFrame.{AnswerFrame}

-- the fields before the digest, in their order
unfoldable pub fields_at : Spot → At AnswerFrame
fields_at p = do
  m ← magic_at (codes "SPLA") p
  v ← version_at 1 m.1
  round ← within_at w8 1 2 v.1
  provider ← provider_at round.1
  session ← number_at w128 provider.1
  key ← take_at 32 session.1
  table ← take_at 32 key.1
  n ← within_at w32 1 65536 table.1
  words ← many_at (number_at w64) n.0 n.1
  Ok (record { session = session.0; round = round.0; provider = provider.0; key = key.0; table = table.0; words = words.0 }, words.1)
