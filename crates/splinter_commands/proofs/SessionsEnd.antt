-- The bytes of a round, what providers answer to them, and the end of the session.
use Rattle.std.proofs.Common.{◌≡◌, ◌++◌, ℕ, List, Ok, refl, sym, ap, subst, ◌∙◌}
use Rattle.spl_words.specs.declared.provider.Provider.{Provider}
use Rattle.spl_words.specs.declared.provider.Provider.TheVariants.{Zero, One}
use Rattle.seed_expansion.specs.ChaChaExpansion.{chacha}
use Rattle.key_frames.specs.Frames.{KeyFrameOf}
use Rattle.key_frames.specs.Notes.{NoteOf}
use Rattle.answer_frames.specs.declared.answer.AnswerFrame.{AnswerFrame}
use Rattle.answer_frames.specs.Spelling.{AnswerOf}
use Rattle.session_model.specs.Answers.{answer_frame}
use Rattle.session_model.specs.Sessions.{key_frame, round_answer, note, clear_text}
use Rattle.provider_core.specs.Answering.{answered}
use Rattle.client_rounds.specs.Rounds.{IsRoundOf}
use Rattle.client_rounds.specs.Finishing.{finished}
use Rattle.client_rounds.specs.declared.starting.RoundOut.{RoundOut}
use Rattle.session_laws.specs.OwnSessions.{IsSpelled, own_key, own_note}
use Rattle.splinter_commands.specs.declared.trace.Traced.{Traced}
use Rattle.splinter_commands.specs.Commands.{round_text, trace_text}
use Rattle.splinter_commands.specs.HeldSessions.{session_of}

module _ (t : Traced) (words : List ℕ) where
  -- a provider's answer, as bytes
  abbrev pub own_answer : Provider → List ℕ
  own_answer p = round_answer chacha p t.asked.checked t.table t.asked.params words

  -- and as a frame
  abbrev pub own_frame : Provider → AnswerFrame
  own_frame p = answer_frame chacha p (own_key chacha (session_of t words) p) (key_frame chacha p t.asked.checked t.table.shape t.asked.params words) t.asked.checked t.table

  -- the bytes of a round of these words
  module _ (round : RoundOut) (of : IsRoundOf chacha t.asked.checked t.table.shape t.asked.params words round) where
    pub left_is : round.left ≡ own_key chacha (session_of t words) Zero
    left_is = ap (λ (r : RoundOut). r.left) of.is

    pub right_is : round.right ≡ own_key chacha (session_of t words) One
    right_is = ap (λ (r : RoundOut). r.right) of.is

    pub note_is : round.note ≡ own_note chacha (session_of t words)
    note_is = ap (λ (r : RoundOut). r.note) of.is

    key_spelled : (p : Provider) → KeyFrameOf (own_key chacha (session_of t words) p) (key_frame chacha p t.asked.checked t.table.shape t.asked.params words)
    key_spelled Zero = subst (λ (b : List ℕ). KeyFrameOf b (key_frame chacha Zero t.asked.checked t.table.shape t.asked.params words)) left_is of.left
    key_spelled One = subst (λ (b : List ℕ). KeyFrameOf b (key_frame chacha One t.asked.checked t.table.shape t.asked.params words)) right_is of.right

    -- they spell its frames
    pub round_spelled : IsSpelled chacha (session_of t words)
    round_spelled = record {
      keys = key_spelled;
      note = subst (λ (b : List ℕ). NoteOf b (note chacha t.asked.checked t.table.shape t.asked.params words)) note_is of.note;
    }

  -- the text of a session is that of its parts
  pub text_is : (zero one lines result text : List ℕ) → zero ≡ (own_frame Zero).words → one ≡ (own_frame One).words → lines ≡ round_text zero one
      → result ≡ clear_text t.asked.checked t.asked.params t.table → text ≡ lines ++ result → text ≡ trace_text t words
  unfolding trace_text
  text_is zero one lines result text first second begun ended whole = whole ∙ rw (begun, first, second, ended) refl

-- the same bytes are answered in the same way
pub same_answer : (t : Traced) (p : Provider) (key own bytes : List ℕ) → key ≡ own → answered chacha p own t.table ≡ Ok bytes → answered chacha p key t.table ≡ Ok bytes
same_answer t p key own bytes same comes = rw same comes

-- they are read in the same way
pub same_frame : (bytes own : List ℕ) (frame : AnswerFrame) → bytes ≡ own → AnswerOf own frame → AnswerOf bytes frame
same_frame bytes own frame same of = subst (λ (b : List ℕ). AnswerOf b frame) (sym same) of

-- and they end a session in the same way
pub same_end : (note zero one n a b text : List ℕ) → note ≡ n → zero ≡ a → one ≡ b → finished n a b ≡ Ok text → finished note zero one ≡ Ok text
same_end note zero one n a b text same first second ended = rw (same, first, second) ended
