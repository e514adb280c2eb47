-- A session whose keys both providers answer ends with the clear answer.
use Rattle.std.proofs.Common.{◌≡◌, ℕ, List, Result, Ok, sym, ap, subst, ◌∙◌}
use Rattle.spl_words.specs.declared.provider.Provider.{Provider}
use Rattle.spl_words.specs.declared.provider.Provider.TheVariants.{Zero, One}
use Rattle.spl_values.specs.Tables.{TableParts, IsTable}
use Rattle.seed_expansion.specs.Expanders.{Meaning, IsPure}
use Rattle.query_tokens.specs.Printing.{canonical_text}
use Rattle.query_reader.specs.declared.checked.Checked.{Checked}
use Rattle.query_reader.proofs.Codes.{answered_known}
use Rattle.judged_queries.specs.Queries.{checked_in}
use Rattle.key_frames.specs.Frames.{KeyFrameOf}
use Rattle.answer_frames.specs.Spelling.{AnswerOf}
use Rattle.private_plan.specs.Plans.{IsBuilt}
use Rattle.session_model.specs.Answers.{answer_bytes, answer_frame}
use Rattle.session_model.specs.Sessions.{key_frame, key_bytes, round_answer}
use Rattle.client_rounds.specs.WellPut.{IsWellPut}
use Rattle.client_rounds.specs.Finishing.{finished}
use Rattle.client_rounds.proofs.Ends.{answer_spelled, ends, ends_exchanged}
use Rattle.provider_core.specs.declared.fault.ProviderFault.{ProviderFault}
use Rattle.provider_core.specs.Answering.{answered}
use Rattle.session_laws.specs.OwnSessions.{Session, IsSession, IsSpelled, IsAnswer, own_key, own_note, own_text}
use Rattle.session_laws.proofs.Answered.{own_answered}

-- what was answered is one answer
one_answer : (r : Result (List ℕ) ProviderFault) (x y : List ℕ) → r ≡ Ok x → r ≡ Ok y → x ≡ y
one_answer r x y a b = cc

-- an answer to bytes that spell a key frame is spelled
pub own_spelled : (e : Meaning) (checked : Checked) (table : TableParts) (params drawn : List ℕ) → IsTable table → (p : Provider) (bytes : List ℕ) → IsWellPut checked table.shape params → IsBuilt checked table.shape.schema.columns → KeyFrameOf bytes (key_frame e p checked table.shape params drawn)
    → AnswerOf (answer_bytes e p bytes (key_frame e p checked table.shape params drawn) checked table) (answer_frame e p bytes (key_frame e p checked table.shape params drawn) checked table)
unfolding key_bytes
own_spelled e checked table params drawn valid p bytes asked built of =
    subst (λ (b : List ℕ). AnswerOf (answer_bytes e p b (key_frame e p checked table.shape params drawn) checked table) (answer_frame e p b (key_frame e p checked table.shape params drawn) checked table)) (sym of.spelled)
    (answer_spelled e checked table params drawn p valid asked.accepted asked.form.form asked.known built of.typed.session)

-- what is asked in a session
pub session_asked : (s : Session) → IsSession s → IsWellPut s.checked s.table.shape s.params
session_asked s is =
    record {
      valid = is.table.shape;
      form = is.form;
      accepted = is.accepted;
      known = answered_known s.checked s.table.shape.schema is.given.0 (Ok s.params) is.form.form is.table.shape.schema is.given.1 is.accepted;
    }

module _ (e : Meaning) (s : Session) (zero one : List ℕ) (is : IsSession s) (spelled : IsSpelled e s) (canonical : checked_in s.table.shape.schema (canonical_text s.checked.query) ≡ Ok s.checked)
    (first : IsAnswer e s Zero zero) (second : IsAnswer e s One one) where
  -- a provider's answer, as bytes
  abbrev own_answer : Provider → List ℕ
  own_answer p = round_answer e p s.checked s.table s.params s.words

  is_own : (p : Provider) → IsAnswer e s p (own_answer p)
  is_own p = own_answered e p s.checked s.table s.params s.words (own_key e s p) (session_asked s is) is.built is.bounded canonical (spelled.keys p)

  zero_is : zero ≡ own_answer Zero
  zero_is = one_answer (answered e Zero (own_key e s Zero) s.table) zero (own_answer Zero) first (is_own Zero)

  one_is : one ≡ own_answer One
  one_is = one_answer (answered e One (own_key e s One) s.table) one (own_answer One) second (is_own One)

  module _ (pure : IsPure e) where
    pub own_end : finished (own_note e s) zero one ≡ Ok (own_text s)
    own_end =
        ap (λ (a : List ℕ). finished (own_note e s) a one) zero_is
        ∙ ap (λ (b : List ℕ). finished (own_note e s) (own_answer Zero) b) one_is
        ∙ ends e pure s.checked s.table s.params s.words is.given.0 is.table is.form is.accepted is.built is.given.1 is.bounded spelled.note canonical

    pub own_end_exchanged : finished (own_note e s) one zero ≡ Ok (own_text s)
    own_end_exchanged =
        ap (λ (a : List ℕ). finished (own_note e s) one a) zero_is
        ∙ ap (λ (b : List ℕ). finished (own_note e s) b (own_answer Zero)) one_is
        ∙ ends_exchanged e pure s.checked s.table s.params s.words is.given.0 is.table is.form is.accepted is.built is.given.1 is.bounded spelled.note canonical
