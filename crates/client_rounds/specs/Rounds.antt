-- The first round of a session.
use Rattle.std.specs.Prelude.{◌≡◌, ℕ, ◌+◌, ◌*◌, List, length}
use Rattle.spl_words.specs.declared.provider.Provider.TheVariants.{Zero, One}
use Rattle.spl_values.specs.Shapes.{ShapeParts}
use Rattle.spl_values.specs.ShapeTexts.{shape_text}
use Rattle.seed_expansion.specs.Expanders.{Meaning}
use Rattle.query_tokens.specs.Printing.{canonical_text}
use Rattle.query_reader.specs.declared.checked.Checked.{Checked}
use Rattle.key_frames.specs.Frames.{KeyFrameOf}
use Rattle.key_frames.specs.Notes.{NoteOf}
use Rattle.private_plan.specs.Lengths.{frame_length}
use Rattle.private_plan.specs.Plans.{plan_of}
use Rattle.private_plan.specs.Rounds.{first_round, secrets_in}
use Rattle.session_model.specs.Sessions.{key_frame, key_bytes, note, note_bytes}
use Rattle.client_rounds.specs.declared.starting.RoundOut.{RoundOut}

-- how many words the round takes: two for the session's number, and four for each tree
abbrev pub words_taken : Checked → ShapeParts → List ℕ → ℕ
words_taken checked shape params = 2 + 4 * length (secrets_in checked shape params first_round)

-- how many bytes each of its key frames has, as the plan tells it from the lengths of the query's text and the shape's
abbrev pub round_length : Checked → ShapeParts → ℕ
round_length checked shape = frame_length (plan_of checked shape) 1 (length (canonical_text checked.query)) (length (shape_text shape))

-- what the round leaves, from the words that are drawn
abbrev pub round_out : Meaning → Checked → ShapeParts → List ℕ → List ℕ → RoundOut
round_out e checked shape params words =
    record {
      left = key_bytes e Zero checked shape params words;
      right = key_bytes e One checked shape params words;
      note = note_bytes e checked shape params words;
      round = 1;
      rounds = (plan_of checked shape).rounds;
    }

-- a round is left by these words, and its bytes are those of two key frames and of a note
pub record IsRoundOf (e : Meaning) (checked : Checked) (shape : ShapeParts) (params words : List ℕ) (out : RoundOut) : Type 0 where
  pub is : out ≡ round_out e checked shape params words
  pub left : KeyFrameOf out.left (key_frame e Zero checked shape params words)
  pub right : KeyFrameOf out.right (key_frame e One checked shape params words)
  pub note : NoteOf out.note (note e checked shape params words)

-- a round is left by some words
abbrev pub IsRound : Meaning → Checked → ShapeParts → List ℕ → RoundOut → Type 0
IsRound e checked shape params out = (words : List ℕ) × IsRoundOf e checked shape params words out
