-- What a session writes, and what it comes to.
use Rattle.std.specs.Prelude.{ℕ, List, length, replicate, drop}
use Rattle.sha2.specs.Sha256.{sha256}
use Rattle.spl_words.specs.declared.provider.Provider.{Provider}
use Rattle.spl_words.specs.declared.provider.Provider.TheVariants.{Zero, One}
use Rattle.spl_words.specs.Secrets.{Secret}
use Rattle.spl_values.specs.Shapes.{ShapeParts}
use Rattle.spl_values.specs.Tables.{TableParts}
use Rattle.seed_expansion.specs.Expanders.{Meaning}
use Rattle.frame_fields.specs.Reading.{sealed}
use Rattle.query_tokens.specs.Printing.{canonical_text}
use Rattle.query_reader.specs.declared.checked.Checked.{Checked}
use Rattle.query_reader.specs.Matching.{matching_rows}
use Rattle.clear_sql.specs.Clear.{clear}
use Rattle.clear_sql.specs.AnswerText.{answer_text}
use Rattle.private_plan.specs.Rounds.{first_round, secrets_in}
use Rattle.key_frames.specs.declared.frame.KeyFrame.{KeyFrame}
use Rattle.key_frames.specs.declared.note.Note.{Note}
use Rattle.key_frames.specs.Frames.{frame_body}
use Rattle.key_frames.specs.Notes.{note_body}
use Rattle.session_model.specs.Draws.{wide, roots_of}
use Rattle.key_frames.specs.Trees.{key_list}
use Rattle.session_model.specs.Answers.{answer_bytes}

-- ---- key frames

-- the frame of a provider's keys of these secrets, in trees numbered from `tree` on: a session's number, a round, a query's text and a shape
abbrev pub frame_of : Meaning → Provider → ℕ → ℕ → ℕ → List ℕ → ShapeParts → List Secret → List (ℕ × ℕ) → KeyFrame
frame_of e p session round tree query shape secrets roots =
    record { session = session; round = round; provider = p; query = query; shape = shape; keys = key_list e p tree secrets roots }

-- the roots of the trees of these secrets, drawn behind the two words of the session
abbrev pub session_roots : List Secret → List ℕ → List (ℕ × ℕ)
session_roots secrets words = roots_of (length secrets) (drop 2 words)

-- a provider's key frame in the first round of a query, from the words that are drawn
abbrev pub key_frame : Meaning → Provider → Checked → ShapeParts → List ℕ → List ℕ → KeyFrame
key_frame e p checked shape params words =
    let secrets = secrets_in checked shape params first_round in
    frame_of e p (wide words) 1 0 (canonical_text checked.query) shape secrets (session_roots secrets words)

-- its bytes
unfoldable pub key_bytes : Meaning → Provider → Checked → ShapeParts → List ℕ → List ℕ → List ℕ
key_bytes e p checked shape params words = sealed (frame_body (key_frame e p checked shape params words))

-- ---- answers

-- the answer of a provider to its key frame, over a table of the shape that is asked
abbrev pub round_answer : Meaning → Provider → Checked → TableParts → List ℕ → List ℕ → List ℕ
round_answer e p checked table params words =
    answer_bytes e p (key_bytes e p checked table.shape params words) (key_frame e p checked table.shape params words) checked table

-- ---- notes

-- the note of the first round: the digests of both key frames, and 32 zeros for the table
abbrev pub note : Meaning → Checked → ShapeParts → List ℕ → List ℕ → Note
note e checked shape params words =
    record {
      session = wide words;
      round = 1;
      query = canonical_text checked.query;
      shape = shape;
      params = params;
      key_zero = sha256 (key_bytes e Zero checked shape params words);
      key_one = sha256 (key_bytes e One checked shape params words);
      table = replicate 32 0;
    }

-- its bytes
unfoldable pub note_bytes : Meaning → Checked → ShapeParts → List ℕ → List ℕ → List ℕ
note_bytes e checked shape params words = sealed (note_body (note e checked shape params words))

-- ---- results

-- the text of the clear answer: that over the rows that match
unfoldable pub clear_text : Checked → List ℕ → TableParts → List ℕ
clear_text checked params table =
    let columns = table.shape.schema.columns in
    answer_text columns checked.spec (clear columns checked.spec (matching_rows checked params table))
