-- Steps on notes: their texts are ASCII, and a refusal of a step is one of the client.
use Rattle.std.proofs.Common.{◌≡◌, ℕ, zero, suc, ◌+◌, ◌<◌, ◌≤◌, Bool, true, false, not, cond, List, [], ◌∷◌, length, None, Some, Result, Ok, Err, refl, inl, inr, arith}
use Rattle.std.specs.Prelude.{◌⊎◌, nat_lt}
use Rattle.std.specs.List.{position, position_or_len}
use Rattle.std.specs.Str.{IsAscii}
use Rattle.std.proofs.lemmas.Bool.Decides.{nat_tests}
use Rattle.query_reader.specs.declared.params.ParamFault.{ParamFault}
use Rattle.query_reader.specs.declared.params.ParamFault.TheVariants as param
use Rattle.query_reader.specs.Params.{Answers}
use Rattle.frame_fields.specs.Reading.{frame_at}
use Rattle.query_reader.specs.declared.checked.Checked.{Checked}
use Rattle.judged_queries.specs.Queries.{checked_in}
use Rattle.judged_queries.specs.Codes.{codes_in}
use Rattle.key_frames.specs.declared.note.Note.{Note}
use Rattle.key_frames.specs.NoteReading.{note_fields_at}
use Rattle.key_frames.specs.Texts.{is_bad}
use Rattle.private_plan.specs.Plans.{kind_of}
use Rattle.client_rounds.specs.declared.faults.AskFault.{AskFault}
use Rattle.client_rounds.specs.declared.faults.AskFault.TheVariants as ask
use Rattle.client_rounds.specs.declared.faults.Source.TheVariants as source
use Rattle.client_rounds.specs.Faults.{query_fault, param_fault}
use Rattle.client_rounds.specs.Finishing.{or_ask, frame_fault, if_built, note_in}

-- ---- texts without a bad byte

first_good : (b : ℕ) (bs : List ℕ) → length (b ∷ bs) ≤ position_or_len is_bad (b ∷ bs) → (b < 128) × (length bs ≤ position_or_len is_bad bs)
first_good b bs h = by_test (is_bad b) refl h where
  by_test : (t : Bool) → is_bad b ≡ t → length (b ∷ bs) ≤ cond (not t) (1 + position_or_len is_bad bs) 0 → (b < 128) × (length bs ≤ position_or_len is_bad bs)
  by_test true e le = absurd (omega (arith, le))
  by_test false e le = (grind (arith, nat_tests, e), omega (arith, le))

long_good : (bs : List ℕ) → length bs ≤ position_or_len is_bad bs → IsAscii bs
long_good [] h i = omega arith
long_good (b ∷ bs) h zero = (first_good b bs h).0
long_good (b ∷ bs) h (suc i) = long_good bs (first_good b bs h).1 i

none_found : (found long : ℕ) (t : Bool) → nat_lt found long ≡ t → cond t (Some found) None ≡ None → long ≤ found
none_found found long true e h = absurd cc
none_found found long false e h = grind (arith, nat_tests, e)

pub good_ascii : (bs : List ℕ) → position is_bad bs ≡ None → IsAscii bs
good_ascii bs h = long_good bs (none_found (position_or_len is_bad bs) (length bs) (nat_lt (position_or_len is_bad bs) (length bs)) refl h)

-- ---- refusals

pub codes_refused : (e : ParamFault) (a : AskFault) (step : Result (List ℕ) ParamFault) → a ≡ param_fault e → Answers (Err e) step → (a ≡ ask.OutOfMemory) ⊎ (or_ask param_fault step ≡ Err a)
codes_refused param.OutOfMemory a step is h = inl is
codes_refused (param.Count needed had) a step is h = inr (rw (h, is) refl)
codes_refused (param.Value i f) a step is h = inr (rw (h, is) refl)
codes_refused (param.BadCode i) a step is h = inr (rw (h, is) refl)

-- the parameters of a note are refused, or memory was short
pub note_refused : (bytes : List ℕ) (n : Note) (checked : Checked) (a : AskFault) → or_ask (frame_fault source.Note) (frame_at note_fields_at bytes) ≡ Ok n → or_ask query_fault (checked_in n.shape.schema n.query) ≡ Ok checked
    → if_built (kind_of checked n.shape.schema.columns) ≡ Ok tt → (a ≡ ask.OutOfMemory) ⊎ (or_ask param_fault (codes_in checked.query n.shape.schema n.params) ≡ Err a) → (a ≡ ask.OutOfMemory) ⊎ (note_in bytes ≡ Err a)
unfolding note_in
note_refused bytes n checked a frame query built (inl short) = inl short
note_refused bytes n checked a frame query built (inr codes) = inr (rw (frame, query, built, codes) refl)
