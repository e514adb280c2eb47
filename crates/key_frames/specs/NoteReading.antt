-- Reading a note from the front, with the first fault that is met.
use Rattle.std.specs.Prelude.{ℕ, Bool, ◌==◌, ◌||◌, List, replicate, Ok, Err, codes, if◌then◌else◌}
use Rattle.std.specs.Int.{w8, w16, w128}
use Rattle.std.specs.Str.{bytes_eq}
use Rattle.spl_words.specs.declared.fault.FrameFault.TheVariants.{BadField}
use Rattle.spl_words.specs.Cursor.{Spot}
use Rattle.spl_words.specs.Results.{◌>>=◌}
use Rattle.frame_fields.specs.Reading.{At, take_at, number_at, magic_at, version_at, within_at, many_at, text_at, decoded_at}
use Rattle.key_frames.specs.declared.note.Note.{Note}
use Rattle.key_frames.specs.Texts.{is_bad, canonical_shape}

-- a digest that a note of that round may have for its table: in round 1 only zeros
abbrev pub is_table : ℕ → List ℕ → Bool
is_table round digest = round == 2 || bytes_eq digest (replicate 32 0)

-- the digest of the table
unfoldable pub table_at : ℕ → Spot → At (List ℕ)
table_at round p = do
  b ← take_at 32 p
  if is_table round b.0 then Ok b else Err (BadField p.at)

-- the fields before the digest, in their order
unfoldable pub note_fields_at : Spot → At Note
note_fields_at p = do
  m ← magic_at (codes "SPLN") p
  v ← version_at 1 m.1
  round ← within_at w8 1 2 v.1
  session ← number_at w128 round.1
  q ← within_at w16 1 4096 session.1
  query ← text_at is_bad q.0 q.1
  s ← within_at w16 1 65535 query.1
  shape ← decoded_at canonical_shape s.0 s.1
  n ← within_at w8 1 255 shape.1
  params ← many_at (number_at w128) n.0 n.1
  first ← take_at 32 params.1
  second ← take_at 32 first.1
  table ← table_at round.0 second.1
  Ok (record { session = session.0; round = round.0; query = query.0; shape = shape.0; params = params.0; key_zero = first.0; key_one = second.0; table = table.0 }, table.1)
