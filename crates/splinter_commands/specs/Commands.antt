-- The commands: what the words and the files come to, and what is drawn, written and printed then.
use Rattle.std.specs.Prelude.{◌≡◌, ℕ, true, false, List, [], ◌∷◌, ◌++◌, Option, Some, None, Result, Ok, Err, codes}
use Rattle.std.specs.List.{flat_map}
use Rattle.std.specs.Fmt.{decimal}
use Rattle.spl_outside.specs.Content.{FileMap}
use Rattle.spl_words.specs.Results.{◌>>=◌}
use Rattle.spl_words.specs.declared.provider.Provider.{Provider}
use Rattle.spl_words.specs.declared.provider.Provider.TheVariants.{Zero, One}
use Rattle.seed_expansion.specs.ChaChaExpansion.{chacha}
use Rattle.private_plan.specs.Plans.{plan_of}
use Rattle.session_model.specs.Answers.{answer_words}
use Rattle.session_model.specs.Sessions.{key_bytes, key_frame, note_bytes, clear_text}
use Rattle.provider_core.specs.Answering.{answered as answered_over}
use Rattle.provider_core.specs.Asking.{or_sum_fault}
use Rattle.sum_bounds.specs.Bounds.{sums_bounded}
use Rattle.client_rounds.specs.declared.faults.Source.{Source}
use Rattle.client_rounds.specs.declared.faults.Source.TheVariants as source
use Rattle.client_rounds.specs.declared.judging.Judged.{Judged}
use Rattle.answer_frames.specs.declared.answer.AnswerFrame.{AnswerFrame}
use Rattle.client_rounds.specs.Finishing.{note_in, answer_in, result_of}
use Rattle.client_rounds.specs.Rounds.{words_taken}
use Rattle.client_rounds.specs.declared.starting.RoundOut.{RoundOut}
use Rattle.splinter_status.specs.declared.stops.Refusal.{Refusal}
use Rattle.splinter_status.specs.declared.stops.Refusal.TheVariants as refusal
use Rattle.command_words.specs.Orders.{Order, TraceOrder, KeysOrder, AnswerOrder, CombineOrder, trace, keys, answer, combine}
use Rattle.splinter_steps.specs.Reads.{file_of, shape_in, table_in}
use Rattle.splinter_steps.specs.Questions.{asked_in}
use Rattle.splinter_commands.specs.declared.trace.Traced.{Traced}
use Rattle.splinter_commands.specs.declared.keys.Question.{Question}
use Rattle.splinter_commands.specs.Effects.{Conduct, Effect}
use Rattle.splinter_commands.specs.Refusals.{name_of, or_provider_refusal, or_ask_refusal}

-- ---- texts

-- the words that a provider answers in a session with these words drawn
abbrev pub provider_words : Provider → Traced → List ℕ → List ℕ
provider_words p t words = let frame = key_frame chacha p t.asked.checked t.table.shape t.asked.params words in answer_words chacha p frame.round frame.keys t.asked.checked t.table

-- words, each behind a space
abbrev pub spaced : List ℕ → List ℕ
spaced words = flat_map (λ w. 32 ∷ decimal w) words

-- the lines of a round: the words of Zero and those of One
abbrev pub round_text : List ℕ → List ℕ → List ℕ
round_text zero one = codes "round 1\n0" ++ (spaced zero ++ (codes "\n1" ++ (spaced one ++ codes "\n")))

-- the lines of the one round, and the text of the clear answer
unfoldable pub trace_text : Traced → List ℕ → List ℕ
trace_text t words = round_text (provider_words Zero t words) (provider_words One t words) ++ clear_text t.asked.checked t.asked.params t.table

-- which round of how many was begun
abbrev pub begun_text : ℕ → List ℕ
begun_text rounds = codes "round 1 of " ++ (decimal rounds ++ codes "\n")

-- ---- what is drawn, written and printed

-- `trace` draws the words of a session, and prints both providers' words and the clear answer
unfoldable pub traced : Traced → Effect
traced t = record { draws = words_taken t.asked.checked t.table.shape t.asked.params; files = []; prints = λ words. trace_text t words }

-- `keys` draws the words of a session, writes its note and both key files, and prints which round was begun
unfoldable pub asked : KeysOrder → Question → Effect
asked o q = record {
  draws = words_taken q.asked.checked q.shape q.asked.params;
  files = (o.note, λ words. note_bytes chacha q.asked.checked q.shape q.asked.params words)
      ∷ (o.key_zero, λ words. key_bytes chacha Zero q.asked.checked q.shape q.asked.params words)
      ∷ (o.key_one, λ words. key_bytes chacha One q.asked.checked q.shape q.asked.params words) ∷ [];
  prints = λ words. begun_text (plan_of q.asked.checked q.shape).rounds;
}

-- the note and the key files of a round, in the order in which they are written
abbrev pub round_files : KeysOrder → RoundOut → List (List ℕ × List ℕ)
round_files o round = (o.note, round.note) ∷ (o.key_zero, round.left) ∷ (o.key_one, round.right) ∷ []

-- `answer` writes the answer
unfoldable pub answer_effect : List ℕ → List ℕ → Effect
answer_effect name bytes = record { draws = 0; files = (name, λ words. bytes) ∷ []; prints = λ words. [] }

-- `combine` prints the result
unfoldable pub combined : List ℕ → Effect
combined text = record { draws = 0; files = []; prints = λ words. text }

-- ---- what the files give

-- what `trace` reads: the shape, then what the query and the parameters ask of it, then the table, whose sums are within their bounds
unfoldable pub trace_ready : TraceOrder → FileMap → Result Effect Refusal
trace_ready o files = do
  shape ← shape_in files o.shape
  question ← asked_in shape o.query o.parameters
  table ← table_in files o.table shape
  bounded ← or_provider_refusal Zero [] table.shape (or_sum_fault (sums_bounded table question.checked.spec.items))
  Ok (traced (record { asked = question; table = table }))

-- what `keys` reads: the shape, and what the query and the parameters ask of it
unfoldable pub keys_ready : KeysOrder → FileMap → Result Effect Refusal
keys_ready o files = do
  shape ← shape_in files o.shape
  question ← asked_in shape o.query o.parameters
  Ok (asked o (record { asked = question; shape = shape }))

-- what `answer` reads: the shape, the table and the key frame, which is then answered
unfoldable pub answer_ready : AnswerOrder → FileMap → Result Effect Refusal
answer_ready o files = do
  shape ← shape_in files o.shape
  table ← table_in files o.table shape
  key ← file_of files o.key
  bytes ← or_provider_refusal o.provider o.key shape (answered_over chacha o.provider key table)
  Ok (answer_effect o.out bytes)

-- what the note of a file says
unfoldable pub noted_in : CombineOrder → FileMap → Result Judged Refusal
noted_in o files = do
  bytes ← file_of files o.note
  or_ask_refusal o (note_in bytes)

-- the answer of a file, which is the first or the second
unfoldable pub answer_of : CombineOrder → Source → FileMap → Result AnswerFrame Refusal
answer_of o source files = do
  bytes ← file_of files (name_of o source)
  or_ask_refusal o (answer_in source bytes)

-- what `combine` reads: the note, then one answer and then the other, and what both come to
unfoldable pub combine_ready : CombineOrder → FileMap → Result Effect Refusal
combine_ready o files = do
  judged ← noted_in o files
  first ← answer_of o source.First files
  second ← answer_of o source.Second files
  text ← or_ask_refusal o (result_of judged first second)
  Ok (combined text)

-- the conduct of each command
abbrev pub conduct_of : Order → Conduct
conduct_of (trace o) = record { may_draw = true; may_print = true; ready = λ files. trace_ready o files }
conduct_of (keys o) = record { may_draw = true; may_print = true; ready = λ files. keys_ready o files }
conduct_of (answer o) = record { may_draw = false; may_print = false; ready = λ files. answer_ready o files }
conduct_of (combine o) = record { may_draw = false; may_print = true; ready = λ files. combine_ready o files }

-- what the words and the files come to: the first refusal, or what is done
abbrev pub judged : Option Order → FileMap → Result Effect Refusal
judged None files = Err refusal.Usage
judged (Some o) files = (conduct_of o).ready files

-- the command may draw no words
abbrev pub DrawsNone : Option Order → Type 0
DrawsNone None = Unit {0}
DrawsNone (Some o) = (conduct_of o).may_draw ≡ false

-- the command may print nothing
abbrev pub IsSilent : Option Order → Type 0
IsSilent None = Unit {0}
IsSilent (Some o) = (conduct_of o).may_print ≡ false
