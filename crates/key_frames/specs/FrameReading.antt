-- Reading a key frame from the front, with the first fault that is met.
use Rattle.std.specs.Prelude.{Ok, codes}
use Rattle.std.specs.Int.{w8, w16, w128}
use Rattle.spl_words.specs.Cursor.{Spot}
use Rattle.spl_words.specs.Results.{◌>>=◌}
use Rattle.frame_fields.specs.Reading.{At, number_at, magic_at, version_at, within_at, provider_at, many_at, text_at, decoded_at}
use Rattle.key_frames.specs.declared.frame.KeyFrame.{KeyFrame}
use Rattle.key_frames.specs.Texts.{is_bad, canonical_shape}
use Rattle.key_frames.specs.KeyReading.{key_at}

-- the fields before the digest, in their order
unfoldable pub frame_fields_at : Spot → At KeyFrame
frame_fields_at p = do
  m ← magic_at (codes "SPLK") p
  v ← version_at 1 m.1
  round ← within_at w8 1 2 v.1
  provider ← provider_at round.1
  session ← number_at w128 provider.1
  q ← within_at w16 1 4096 session.1
  query ← text_at is_bad q.0 q.1
  s ← within_at w16 1 65535 query.1
  shape ← decoded_at canonical_shape s.0 s.1
  n ← within_at w16 1 512 shape.1
  keys ← many_at key_at n.0 n.1
  Ok (record { session = session.0; round = round.0; provider = provider.0; query = query.0; shape = shape.0; keys = keys.0 }, keys.1)
