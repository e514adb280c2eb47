-- Spelled notes and answers are read, and what is read comes to a result.
use Rattle.std.proofs.Common.{◌≡◌, ℕ, List, length, Ok, refl, ap, arith}
use Rattle.spl_values.specs.Shapes.{ShapeParts}
use Rattle.cell_merge.specs.Cells.{cell_width, merge_all}
use Rattle.frame_fields.specs.Reading.{frame_at}
use Rattle.frame_fields.proofs.Laws.{frame_only}
use Rattle.query_reader.specs.declared.checked.Checked.{Checked}
use Rattle.judged_queries.specs.Queries.{checked_in}
use Rattle.judged_queries.specs.Codes.{codes_in}
use Rattle.key_frames.specs.declared.note.Note.{Note}
use Rattle.key_frames.specs.Notes.{NoteAllowed, NoteTyped, NoteOf, note_body}
use Rattle.key_frames.specs.NoteReading.{note_fields_at}
use Rattle.key_frames.proofs.NoteLaws.{note_field, length-note}
use Rattle.answer_frames.specs.declared.answer.AnswerFrame.{AnswerFrame}
use Rattle.answer_frames.specs.Reading.{fields_at}
use Rattle.answer_frames.specs.Spelling.{Allowed, Typed, AnswerOf, body}
use Rattle.answer_frames.proofs.Answers.{fields_field, length-spelling}
use Rattle.private_plan.specs.Plans.{IsBuilt, plan_of}
use Rattle.clear_sql.specs.declared.answer.Group.{Group}
use Rattle.clear_sql.specs.AnswerText.{answer_text}
use Rattle.clear_sql.specs.CellAnswers.{answer_of}
use Rattle.combiner.specs.Combining.{combined}
use Rattle.combiner.specs.Finals.{cells_in, last_words, final_of}
use Rattle.combiner.specs.GoodWords.{good_words}
use Rattle.client_rounds.specs.declared.faults.Source.{Source}
use Rattle.client_rounds.specs.declared.faults.Source.TheVariants as source
use Rattle.client_rounds.specs.declared.judging.Judged.{Judged}
use Rattle.client_rounds.specs.Finishing.{note_in, answer_in, result_of, text_of_answers, finished}

pub note_read : (bytes : List ℕ) (n : Note) → NoteOf bytes n → frame_at note_fields_at bytes ≡ Ok n
note_read bytes n of =
    frame_only note_fields_at (λ n. NoteAllowed n × NoteTyped n) note_body note_field bytes n (of.allowed, of.typed)
    (omega (arith, length-note n (of.allowed, of.typed), ap length of.spelled)) of.spelled

pub answer_frame_read : (bytes : List ℕ) (a : AnswerFrame) → AnswerOf bytes a → frame_at fields_at bytes ≡ Ok a
answer_frame_read bytes a of =
    frame_only fields_at (λ a. Allowed a × Typed a) body fields_field bytes a (of.allowed, of.typed)
    (omega (arith, length-spelling a of.typed, of.allowed.count, ap length of.spelled)) of.spelled

pub answer_read : (s : Source) (bytes : List ℕ) (a : AnswerFrame) → AnswerOf bytes a → answer_in s bytes ≡ Ok a
answer_read s bytes a of = rw (answer_frame_read bytes a of) refl

pub note_judged : (bytes : List ℕ) (n : Note) (checked : Checked) (params : List ℕ) → frame_at note_fields_at bytes ≡ Ok n → checked_in n.shape.schema n.query ≡ Ok checked
    → IsBuilt checked n.shape.schema.columns → codes_in checked.query n.shape.schema n.params ≡ Ok params
    → note_in bytes ≡ Ok (record { note = n; checked = checked; params = params; plan = plan_of checked n.shape })
unfolding note_in
note_judged bytes n checked params read query built codes = rw (read, query, built, codes) refl

pub result_is : (j : Judged) (a b : AnswerFrame) (words : List ℕ) (groups : List Group) → combined j.note a b (last_words j.plan) ≡ Ok words → final_of j.checked j.note.shape words ≡ Ok groups
    → result_of j a b ≡ Ok (answer_text j.note.shape.schema.columns j.checked.spec groups)
unfolding result_of
result_is j a b words groups both final = rw (both, final) refl

pub finished_is : (note a b : List ℕ) (j : Judged) (first second : AnswerFrame) (text : List ℕ) → note_in note ≡ Ok j → answer_in source.First a ≡ Ok first → answer_in source.Second b ≡ Ok second
    → result_of j first second ≡ Ok text → finished note a b ≡ Ok text
unfolding finished text_of_answers
finished_is note a b j first second text judged one two result = rw (judged, one, two) result

pub final_is : (checked : Checked) (shape : ShapeParts) (words : List ℕ) (groups : List Group) → good_words shape.schema.columns checked.spec.items shape.rows 0 words ≡ Ok tt
    → answer_of shape.schema.columns checked.spec (merge_all checked.spec (cells_in (cell_width checked.spec) words)) ≡ groups → final_of checked shape words ≡ Ok groups
unfolding final_of
final_is checked shape words groups good answer = rw (good, answer) refl
