-- A provider answers its own key frame.
use Rattle.std.proofs.Common.{◌≡◌, ℕ, true, List, Ok, refl}
use Rattle.std.specs.Str.{bytes_eq}
use Rattle.std.proofs.lemmas.Slice.Eq.{bytes_eq-Decides}
use Rattle.spl_words.specs.declared.provider.Provider.{Provider}
use Rattle.spl_words.specs.declared.provider.Provider.TheVariants.{Zero, One}
use Rattle.spl_values.specs.ShapeTexts.{shape_text}
use Rattle.spl_values.specs.Tables.{TableParts}
use Rattle.seed_expansion.specs.Expanders.{Meaning}
use Rattle.frame_fields.specs.Reading.{frame_at}
use Rattle.query_tokens.specs.Printing.{canonical_text}
use Rattle.query_reader.specs.declared.checked.Checked.{Checked}
use Rattle.judged_queries.specs.Queries.{checked_in}
use Rattle.private_plan.specs.Plans.{IsBuilt}
use Rattle.key_frames.specs.declared.frame.KeyFrame.{KeyFrame}
use Rattle.key_frames.specs.FrameReading.{frame_fields_at}
use Rattle.key_frames.specs.Frames.{KeyFrameOf}
use Rattle.key_frames.proofs.FrameLaws.{frame_read}
use Rattle.session_model.specs.Answers.{answer_bytes}
use Rattle.session_model.specs.Sessions.{key_frame}
use Rattle.client_rounds.specs.WellPut.{IsWellPut}
use Rattle.provider_core.specs.Answering.{answered}
use Rattle.provider_core.specs.Asking.{asked_in, frame_in, if_own, if_same_text, keys_placed, query_in}
use Rattle.sum_bounds.specs.Bounds.{sums_bounded}
use Rattle.session_laws.proofs.Layouts.{round_placed}

own_is : (p : Provider) → if_own p p ≡ Ok tt
own_is Zero = refl
own_is One = refl

same_is : (text : List ℕ) → if_same_text text text ≡ Ok tt
same_is text = let same : bytes_eq text text ≡ true = (bytes_eq-Decides text text).1 refl in rw same refl

frame_is : (p : Provider) (bytes : List ℕ) (table : TableParts) (f : KeyFrame) → frame_at frame_fields_at bytes ≡ Ok f → if_own p f.provider ≡ Ok tt → if_same_text (shape_text f.shape) (shape_text table.shape) ≡ Ok tt
    → frame_in p bytes table ≡ Ok f
unfolding frame_in
frame_is p bytes table f read own same = rw (read, own, same) refl

query_is : (table : TableParts) (f : KeyFrame) (checked : Checked) → checked_in table.shape.schema f.query ≡ Ok checked → keys_placed table f checked ≡ Ok tt → sums_bounded table checked.spec.items ≡ Ok tt
    → query_in table f ≡ Ok checked
unfolding query_in
query_is table f checked read placed bounded = rw (read, placed, bounded) refl

asked_is : (p : Provider) (bytes : List ℕ) (table : TableParts) (f : KeyFrame) (checked : Checked) → frame_in p bytes table ≡ Ok f → query_in table f ≡ Ok checked
    → asked_in p bytes table ≡ Ok (record { frame = f; checked = checked })
unfolding asked_in
asked_is p bytes table f checked frame query = rw (frame, query) refl

answered_is : (e : Meaning) (p : Provider) (bytes : List ℕ) (table : TableParts) (f : KeyFrame) (checked : Checked) → asked_in p bytes table ≡ Ok (record { frame = f; checked = checked })
    → answered e p bytes table ≡ Ok (answer_bytes e p bytes f checked table)
unfolding answered
answered_is e p bytes table f checked asked = rw asked refl

pub own_answered : (e : Meaning) (p : Provider) (checked : Checked) (table : TableParts) (params words bytes : List ℕ) → IsWellPut checked table.shape params → IsBuilt checked table.shape.schema.columns
    → sums_bounded table checked.spec.items ≡ Ok tt → checked_in table.shape.schema (canonical_text checked.query) ≡ Ok checked → KeyFrameOf bytes (key_frame e p checked table.shape params words)
    → answered e p bytes table ≡ Ok (answer_bytes e p bytes (key_frame e p checked table.shape params words) checked table)
own_answered e p checked table params words bytes asked built bounded canonical of =
    let f = key_frame e p checked table.shape params words in
    let frame = frame_is p bytes table f (frame_read bytes f of) (own_is p) (same_is (shape_text table.shape)) in
    let query = query_is table f checked canonical (round_placed e p checked table params words asked) bounded in
    answered_is e p bytes table f checked (asked_is p bytes table f checked frame query)
