-- What `combine` reads from the files of a session.
use Rattle.std.proofs.Common.{◌≡◌, ℕ, ◌≤◌, Bool, true, false, cond, nat_lt, nat_le, List, length, Some, Result, Ok, Err, refl, arith, inl, inr}
use Rattle.std.specs.Prelude.{◌⊎◌}
use Rattle.std.specs.FinMap.{get}
use Rattle.std.proofs.lemmas.Bool.Decides.{nat_tests}
use Rattle.spl_outside.specs.Content.{FileMap}
use Rattle.spl_words.specs.Results.{◌>>=◌}
use Rattle.spl_words.specs.declared.fault.FrameFault.{FrameFault}
use Rattle.spl_words.specs.declared.fault.FrameFault.TheVariants as frame
use Rattle.spl_words.specs.declared.provider.Provider.TheVariants.{Zero, One}
use Rattle.seed_expansion.specs.ChaChaExpansion.{chacha}
use Rattle.frame_fields.specs.Reading.{At, frame_at}
use Rattle.spl_words.specs.Cursor.{Spot}
use Rattle.key_frames.specs.NoteReading.{note_fields_at}
use Rattle.answer_frames.specs.declared.answer.AnswerFrame.{AnswerFrame}
use Rattle.answer_frames.specs.Reading.{fields_at}
use Rattle.session_laws.specs.OwnSessions.{Session, IsAnswer, own_note, own_text}
use Rattle.client_rounds.specs.declared.faults.AskFault.{AskFault}
use Rattle.client_rounds.specs.declared.faults.Source.{Source}
use Rattle.client_rounds.specs.declared.faults.Source.TheVariants as source
use Rattle.client_rounds.specs.declared.judging.Judged.{Judged}
use Rattle.client_rounds.specs.Finishing.{or_ask, frame_fault, note_in, answer_in, text_of_answers, finished}
use Rattle.command_words.specs.Orders.{CombineOrder}
use Rattle.splinter_steps.specs.Reads.{file_of}
use Rattle.splinter_commands.specs.Commands.{answer_of, combine_ready, combined, noted_in}
use Rattle.splinter_commands.specs.Refusals.{name_of}
use Rattle.splinter_commands.specs.HeldSessions.{HoldsAnswer, HoldsSession}

-- ---- steps that come

pub step_came : {A B E : Type 0} (step : Result A E) (next : A → Result B E) (y : B) → (step >>= next) ≡ Ok y → (x : A) × ((step ≡ Ok x) × (next x ≡ Ok y))
step_came (Ok x) next y is = (x, (refl, is))
step_came (Err f) next y is = absurd cc

ask_came : {A E : Type 0} (fault : E → AskFault) (step : Result A E) (x : A) → or_ask fault step ≡ Ok x → step ≡ Ok x
ask_came fault (Ok x) y is = cc
ask_came fault (Err f) y is = absurd cc

-- ---- lengths

not_over : {A : Type 0} (over : Bool) (fault : FrameFault) (rest : Result A FrameFault) (f : A) → cond over (Err fault) rest ≡ Ok f → over ≡ false
not_over true fault rest f is = absurd cc
not_over false fault rest f is = refl

fits_a_file : (n : ℕ) → nat_lt 4194304 n ≡ false → nat_le n 67108864 ≡ true
fits_a_file n h = let few : n ≤ 4194304 = grind (arith, nat_tests) in grind (arith, nat_tests)

-- what is read as a frame is no longer than a file may be
frame_fits : {A : Type 0} (fields : Spot → At A) (bytes : List ℕ) (f : A) → frame_at fields bytes ≡ Ok f → nat_le (length bytes) 67108864 ≡ true
unfolding frame_at
frame_fits fields bytes f is = fits_a_file (length bytes) (not_over (nat_lt 4194304 (length bytes)) frame.TooLarge _ f is)

note_fits : (bytes : List ℕ) (j : Judged) → note_in bytes ≡ Ok j → nat_le (length bytes) 67108864 ≡ true
unfolding note_in
note_fits bytes j is =
    let read = step_came (or_ask (frame_fault source.Note) (frame_at note_fields_at bytes)) _ j is in
    frame_fits note_fields_at bytes read.0 (ask_came (frame_fault source.Note) (frame_at note_fields_at bytes) read.0 read.1.0)

answer_fits : (s : Source) (bytes : List ℕ) (a : AnswerFrame) → answer_in s bytes ≡ Ok a → nat_le (length bytes) 67108864 ≡ true
answer_fits s bytes a is = frame_fits fields_at bytes a (ask_came (frame_fault s) (frame_at fields_at bytes) a is)

-- ---- files

file_is : (m : FileMap) (name bytes : List ℕ) → get m name ≡ Some bytes → nat_le (length bytes) 67108864 ≡ true → file_of m name ≡ Ok bytes
file_is m name bytes held fits = rw (held, fits) refl

noted_is : (o : CombineOrder) (m : FileMap) (bytes : List ℕ) (j : Judged) → get m o.note ≡ Some bytes → note_in bytes ≡ Ok j → noted_in o m ≡ Ok j
unfolding noted_in
noted_is o m bytes j held is = rw (file_is m o.note bytes held (note_fits bytes j is), is) refl

answer_is : (o : CombineOrder) (s : Source) (m : FileMap) (bytes : List ℕ) (a : AnswerFrame) → get m (name_of o s) ≡ Some bytes → answer_in s bytes ≡ Ok a → answer_of o s m ≡ Ok a
unfolding answer_of
answer_is o s m bytes a held is = rw (file_is m (name_of o s) bytes held (answer_fits s bytes a is), is) refl

-- ---- the end

-- files that hold a note and two answers come to what these come to
combine_is : (o : CombineOrder) (m : FileMap) (note a b text : List ℕ) → get m o.note ≡ Some note → get m o.first ≡ Some a → get m o.second ≡ Some b → finished note a b ≡ Ok text
    → combine_ready o m ≡ Ok (combined text)
unfolding combine_ready finished text_of_answers
combine_is o m note a b text noted one two is =
    let judged = step_came (note_in note) _ text is in
    let first = step_came (answer_in source.First a) _ text judged.1.1 in
    let second = step_came (answer_in source.Second b) _ text first.1.1 in
    rw (noted_is o m note judged.0 noted judged.1.0, answer_is o source.First m a first.0 one first.1.0, answer_is o source.Second m b second.0 two second.1.0, second.1.1) refl

-- so do those of a session, whichever answer comes first
pub session_is : (s : Session) (o : CombineOrder) (m : FileMap)
    → ((zero one : List ℕ) → IsAnswer chacha s Zero zero → IsAnswer chacha s One one → finished (own_note chacha s) zero one ≡ Ok (own_text s))
    → ((zero one : List ℕ) → IsAnswer chacha s Zero zero → IsAnswer chacha s One one → finished (own_note chacha s) one zero ≡ Ok (own_text s))
    → HoldsSession s o m → combine_ready o m ≡ Ok (combined (own_text s))
session_is s o m in_order exchanged holds = either holds.answers where
  either : (HoldsAnswer s Zero o.first m × HoldsAnswer s One o.second m) ⊎ (HoldsAnswer s One o.first m × HoldsAnswer s Zero o.second m) → combine_ready o m ≡ Ok (combined (own_text s))
  either (inl (zero, one)) = combine_is o m (own_note chacha s) zero.0 one.0 (own_text s) holds.note zero.1.0 one.1.0 (in_order zero.0 one.0 zero.1.1 one.1.1)
  either (inr (one, zero)) = combine_is o m (own_note chacha s) one.0 zero.0 (own_text s) holds.note one.1.0 zero.1.0 (exchanged zero.0 one.0 zero.1.1 one.1.1)
