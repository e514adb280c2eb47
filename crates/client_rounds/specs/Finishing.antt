-- What a note and two answers come to.
use Rattle.std.specs.Prelude.{◌≡◌, ℕ, List, Result, Ok, Err, if◌then◌else◌}
use Rattle.spl_words.specs.declared.fault.FrameFault.{FrameFault}
use Rattle.spl_words.specs.declared.fault.FrameFault.TheVariants as frame
use Rattle.spl_words.specs.Results.{◌>>=◌}
use Rattle.frame_fields.specs.Reading.{frame_at}
use Rattle.query_reader.specs.Accepted.{IsCheckedFor}
use Rattle.query_reader.specs.Params.{AreParamsFor}
use Rattle.judged_queries.specs.Queries.{checked_in}
use Rattle.judged_queries.specs.Codes.{codes_in}
use Rattle.key_frames.specs.NoteReading.{note_fields_at}
use Rattle.answer_frames.specs.declared.answer.AnswerFrame.{AnswerFrame}
use Rattle.answer_frames.specs.Reading.{fields_at}
use Rattle.private_plan.specs.declared.plans.PlanKind.{PlanKind}
use Rattle.private_plan.specs.Plans.{is_built, kind_of, plan_of}
use Rattle.clear_sql.specs.AnswerText.{answer_text}
use Rattle.combiner.specs.declared.combining.CombineFault.{CombineFault}
use Rattle.combiner.specs.declared.combining.CombineFault.TheVariants as combine
use Rattle.combiner.specs.declared.finals.FinalFault.{FinalFault}
use Rattle.combiner.specs.declared.finals.FinalFault.TheVariants as final
use Rattle.combiner.specs.Combining.{combined}
use Rattle.combiner.specs.Finals.{last_words, final_of}
use Rattle.client_rounds.specs.declared.faults.AskFault.{AskFault}
use Rattle.client_rounds.specs.declared.faults.AskFault.TheVariants as ask
use Rattle.client_rounds.specs.declared.faults.Source.{Source}
use Rattle.client_rounds.specs.declared.faults.Source.TheVariants as source
use Rattle.client_rounds.specs.declared.judging.Judged.{Judged}
use Rattle.client_rounds.specs.Faults.{query_fault, param_fault}

-- ---- faults

-- the value, or what the fault of the step is for a client
abbrev pub or_ask : {A E : Type 0} → (E → AskFault) → Result A E → Result A AskFault
or_ask fault (Ok x) = Ok x
or_ask fault (Err e) = Err (fault e)

-- of bytes that are no frame
abbrev pub frame_fault : Source → FrameFault → AskFault
frame_fault s frame.OutOfMemory = ask.OutOfMemory
frame_fault s e = ask.Frame s e

-- of answers that aren't combined
abbrev pub combine_fault : CombineFault → AskFault
combine_fault (combine.SameProvider p) = ask.SameProvider p
combine_fault (combine.Differ d) = ask.Differ d
combine_fault combine.OutOfMemory = ask.OutOfMemory

-- of combined words that stand for no answer
abbrev pub final_fault : FinalFault → AskFault
final_fault (final.BadWord place word) = ask.BadWord place word
final_fault final.OutOfMemory = ask.OutOfMemory

-- ---- notes

-- the refusal of a plan that isn't answered yet
abbrev pub if_built : PlanKind → Result (Unit {0}) AskFault
if_built k = if is_built k then Ok tt else Err (ask.NotBuilt k)

-- what a note says: its frame, its query over its shape, the query's plan and the parameters
unfoldable pub note_in : List ℕ → Result Judged AskFault
note_in bytes = do
  note ← or_ask (frame_fault source.Note) (frame_at note_fields_at bytes)
  checked ← or_ask query_fault (checked_in note.shape.schema note.query)
  built ← if_built (kind_of checked note.shape.schema.columns)
  params ← or_ask param_fault (codes_in checked.query note.shape.schema note.params)
  Ok (record { note = note; checked = checked; params = params; plan = plan_of checked note.shape })

-- an accepted query over the note's shape, its parameters and its plan
pub record IsJudged (j : Judged) : Type 0 where
  pub accepted : IsCheckedFor j.checked j.note.shape.schema
  pub params : AreParamsFor j.checked j.note.shape.schema j.params
  pub plan : j.plan ≡ plan_of j.checked j.note.shape

-- ---- answers

-- the answer frame that was given as the first or the second
abbrev pub answer_in : Source → List ℕ → Result AnswerFrame AskFault
answer_in s bytes = or_ask (frame_fault s) (frame_at fields_at bytes)

-- the text that two answers to a note's session come to, in either order
unfoldable pub result_of : Judged → AnswerFrame → AnswerFrame → Result (List ℕ) AskFault
result_of j a b = do
  words ← or_ask combine_fault (combined j.note a b (last_words j.plan))
  groups ← or_ask final_fault (final_of j.checked j.note.shape words)
  Ok (answer_text j.note.shape.schema.columns j.checked.spec groups)

-- the same of the bytes of two answers
unfoldable pub text_of_answers : Judged → List ℕ → List ℕ → Result (List ℕ) AskFault
text_of_answers j a b = do
  first ← answer_in source.First a
  second ← answer_in source.Second b
  result_of j first second

-- the text that a note and two answers come to, or the first refusal
unfoldable pub finished : List ℕ → List ℕ → List ℕ → Result (List ℕ) AskFault
finished note a b = do
  j ← note_in note
  text_of_answers j a b
