-- The first round, from the session's number and the roots.
use Rattle.std.proofs.Common.{◌≡◌, ℕ, zero, suc, ◌+◌, ◌*◌, ◌/◌, ◌%◌, ◌^◌, List, [], ◌∷◌, length, replicate, refl, ap₂, subst, ◌∙◌, arith}
use Rattle.sha2.specs.Sha256.{sha256}
use Rattle.spl_words.specs.declared.provider.Provider.{Provider}
use Rattle.spl_words.specs.declared.provider.Provider.TheVariants.{Zero, One}
use Rattle.spl_words.specs.Secrets.{Secret}
use Rattle.spl_values.specs.Shapes.{ShapeParts}
use Rattle.seed_expansion.specs.Expanders.{Meaning}
use Rattle.query_tokens.specs.Printing.{canonical_text}
use Rattle.query_reader.specs.declared.checked.Checked.{Checked}
use Rattle.key_frames.specs.declared.frame.KeyFrame.{KeyFrame}
use Rattle.key_frames.specs.declared.note.Note.{Note}
use Rattle.key_frames.specs.Frames.{KeyFrameOf}
use Rattle.key_frames.specs.Notes.{NoteOf}
use Rattle.private_plan.specs.Plans.{plan_of}
use Rattle.private_plan.specs.Rounds.{first_round, secrets_in}
use Rattle.session_model.specs.Draws.{wide, tree_roots, roots_of}
use Rattle.session_model.specs.Sessions.{frame_of, session_roots, key_frame, key_bytes, note, note_bytes}
use Rattle.client_rounds.specs.Rounds.{IsRoundOf}

-- ---- words that make a number and roots

root_words : List (ℕ × ℕ) → List ℕ
root_words [] = []
root_words (r ∷ rs) = r.0 / 2 ^ 64 ∷ r.0 % 2 ^ 64 ∷ r.1 / 2 ^ 64 ∷ r.1 % 2 ^ 64 ∷ root_words rs

pub words_for : ℕ → List (ℕ × ℕ) → List ℕ
words_for session roots = session / 2 ^ 64 ∷ session % 2 ^ 64 ∷ root_words roots

halves : (n : ℕ) → n ≡ n / 2 ^ 64 * 2 ^ 64 + n % 2 ^ 64
halves n = omega arith

pub session_back : (session : ℕ) (roots : List (ℕ × ℕ)) → session ≡ wide (words_for session roots)
unfolding words_for
session_back session roots = halves session

pair : ℕ → ℕ → ℕ × ℕ
pair a b = (a, b)

tree_back : (r : ℕ × ℕ) (rs : List (ℕ × ℕ)) → r ≡ tree_roots (root_words (r ∷ rs))
unfolding root_words pair
tree_back r rs = ap₂ pair (halves r.0) (halves r.1)

roots_back : (n : ℕ) (roots : List (ℕ × ℕ)) → length roots ≡ n → roots ≡ roots_of n (root_words roots)
unfolding roots_of root_words
roots_back zero [] same = refl
roots_back zero (r ∷ rs) same = absurd (omega (arith, same))
roots_back (suc n) [] same = absurd (omega (arith, same))
roots_back (suc n) (r ∷ rs) same = ap₂ (λ t ts. t ∷ ts) (tree_back r rs) (roots_back n rs (omega (arith, same)))

pub roots_again : (session : ℕ) (secrets : List Secret) (roots : List (ℕ × ℕ)) → length roots ≡ length secrets → roots ≡ session_roots secrets (words_for session roots)
unfolding words_for
roots_again session secrets roots same = roots_back (length secrets) roots same

-- ---- the round

-- what a round is made of: its key frames, from the session's number and the roots that the words make
pub record Begun (e : Meaning) (checked : Checked) (table : ShapeParts) (params words : List ℕ) (session : ℕ) (query : List ℕ) (shape : ShapeParts) (secrets : List Secret) (roots : List (ℕ × ℕ)) : Type 0 where
  pub session_is : session ≡ wide words
  pub query_is : query ≡ canonical_text checked.query
  pub shape_is : shape ≡ table
  pub secrets_are : secrets ≡ secrets_in checked table params first_round
  pub roots_are : roots ≡ session_roots secrets words

module _ (e : Meaning) (checked : Checked) (table : ShapeParts) (params words : List ℕ) (session : ℕ) (query : List ℕ) (shape : ShapeParts) (secrets : List Secret) (roots : List (ℕ × ℕ))
    (begun : Begun e checked table params words session query shape secrets roots) where
  frame_same : (p : Provider) → frame_of e p session 1 0 query shape secrets roots ≡ key_frame e p checked table params words
  frame_same p = rw (begun.session_is, begun.query_is, begun.shape_is, begun.roots_are, begun.secrets_are) refl

  frame_is : (p : Provider) (frame : KeyFrame) (bytes : List ℕ) → frame ≡ frame_of e p session 1 0 query shape secrets roots → KeyFrameOf bytes frame → KeyFrameOf bytes (key_frame e p checked table params words)
  frame_is p frame bytes is of = subst (KeyFrameOf bytes) (is ∙ frame_same p) of

  bytes_are : (p : Provider) (bytes : List ℕ) → KeyFrameOf bytes (key_frame e p checked table params words) → bytes ≡ key_bytes e p checked table params words
  unfolding key_bytes
  bytes_are p bytes of = of.spelled

  -- what stands in the note
  kept : List ℕ → List ℕ → Note
  kept left right = record { session = session; round = 1; query = query; shape = shape; params = params; key_zero = sha256 left; key_one = sha256 right; table = replicate 32 0 }

  note_same : (left right : List ℕ) → left ≡ key_bytes e Zero checked table params words → right ≡ key_bytes e One checked table params words → kept left right ≡ note e checked table params words
  unfolding kept
  note_same left right l r = rw (begun.session_is, begun.query_is, begun.shape_is, l, r) refl

  note_is : (bytes : List ℕ) → NoteOf bytes (note e checked table params words) → bytes ≡ note_bytes e checked table params words
  unfolding note_bytes
  note_is bytes of = of.spelled

  pub round_begun : (zero_frame one_frame : KeyFrame) (left right kept_bytes : List ℕ) (rounds : ℕ)
      → zero_frame ≡ frame_of e Zero session 1 0 query shape secrets roots → one_frame ≡ frame_of e One session 1 0 query shape secrets roots
      → KeyFrameOf left zero_frame → KeyFrameOf right one_frame
      → NoteOf kept_bytes (record { session = session; round = 1; query = query; shape = shape; params = params; key_zero = sha256 left; key_one = sha256 right; table = replicate 32 0 })
      → rounds ≡ (plan_of checked table).rounds
      → IsRoundOf e checked table params words (record { left = left; right = right; note = kept_bytes; round = 1; rounds = rounds })
  unfolding kept
  round_begun zero_frame one_frame left right kept_bytes rounds zero_is one_is of_left of_right of_note rounds_are =
      let l = frame_is Zero zero_frame left zero_is of_left in
      let r = frame_is One one_frame right one_is of_right in
      let left_is = bytes_are Zero left l in
      let right_is = bytes_are One right r in
      let n = subst (NoteOf kept_bytes) (note_same left right left_is right_is) of_note in
      let note_bytes_are = note_is kept_bytes n in
      record { is = rw (left_is, right_is, note_bytes_are, rounds_are) refl; left = l; right = r; note = n }
