-- What is promised of a run: how its status comes about, and what it leaves.
use Rattle.std.specs.Prelude.{◌≡◌, ◌⊎◌, ℕ, List, ◌++◌, map, take, String, string_bytes, Option, Some, IfSome, IsOk, IsErr, IsErrOf, IsOkAnd, Result, Ok, Err}
use Rattle.std.specs.Global.{Global, Vec}
use Rattle.spl_outside.specs.Causes.{Counts}
use Rattle.spl_outside.specs.Content.{FileMap, KeepsBut, LeftAfter}
use Rattle.command_words.specs.Orders.{Order}
use Rattle.command_words.specs.Forms.{form_of}
use Rattle.splinter_status.specs.declared.status.Status.{Status}
use Rattle.splinter_status.specs.declared.status.Status.TheVariants as status
use Rattle.splinter_status.specs.declared.stops.InputStop.{InputStop}
use Rattle.splinter_status.specs.declared.stops.Refusal.{Refusal}
use Rattle.splinter_status.specs.declared.stops.Stopped.{Stopped}
use Rattle.splinter_status.specs.declared.stops.Stopped.TheVariants as stopped
use Rattle.splinter_status.specs.Ends.{ComesWhereRead, EndsAs, Reports, end_of, line_of_end, line_of_refusal, status_of}
use Rattle.splinter_status.specs.Texts.{line_of}
use Rattle.splinter_steps.specs.Writes.{put_all, PutsFirst}
use Rattle.splinter_commands.specs.Effects.{Effect, draws, names, outputs}
use Rattle.splinter_commands.specs.Commands.{judged}
use Rattle.splinter_commands.specs.Meets.{FilesFailed, IsTold, Meets, TakesSome}
use Rattle.splinter_cli.specs.Worlds.{AllDrawn, DrawFailed, ReadFailed, Unchanged, World, WriteFailed}

-- the order that the words of the command line mean, if they mean one
abbrev pub order_of : List (String Global) → Option Order
order_of words = form_of (map string_bytes words)

-- the words and the files call for a refusal with this status
abbrev pub CallsFor : Status → Result Effect Refusal → Type 0
CallsFor ended ready = (r : Refusal) × ((ready ≡ Err r) × (status_of r ≡ ended))

-- ---- files and words

-- the effect's files were all written for these words, and its words all taken
abbrev pub DoesAll : Effect → List ℕ → FileMap → World → World → Type 0
DoesAll x words m before after = (after.held ≡ Some (put_all (outputs x words) m)) × AllDrawn x before after

-- some first ones of its files were written, and no other changed
abbrev pub DoesFirst : Result Effect Refusal → List ℕ → FileMap → World → Type 0
DoesFirst (Ok x) words m after = (count : ℕ) × PutsFirst count (outputs x words) m after.held
DoesFirst (Err r) words m after = after.held ≡ Some m

-- by its status: what a run leaves in the files and takes of the words to come
abbrev pub Leaves : Status → Result Effect Refusal → List ℕ → FileMap → World → World → Type 0
Leaves status.Done ready words m before after = IsOkAnd ready (λ x. DoesAll x words m before after)
Leaves status.FileFault ready words m before after = ReadFailed before after ⊎ IsOkAnd ready (λ x. WriteFailed x words m before after)
Leaves status.DrawFault ready words m before after = IsOk ready × DrawFailed before after
Leaves status.OutOfMemory ready words m before after = DoesFirst ready words m after ⊎ IsOkAnd ready (λ x. WriteFailed x words m before after)
Leaves status.OutputFault ready words m before after =
    (IsErr ready × Unchanged before after) ⊎ ReadFailed before after ⊎ (IsOk ready × DrawFailed before after)
    ⊎ IsOkAnd ready (λ x. DoesAll x words m before after ⊎ WriteFailed x words m before after)
Leaves ended ready words m before after = CallsFor ended ready × Unchanged before after

-- ---- output

-- the texts that may be printed: the line of the refusal or of a fault, or the text of the effect
abbrev pub MayPrint : Result Effect Refusal → List ℕ → List ℕ → Type 0
MayPrint (Err r) words text = (text ≡ line_of_refusal r) ⊎ (text ≡ line_of status.FileFault)
MayPrint (Ok x) words text = (text ≡ line_of status.FileFault) ⊎ (text ≡ line_of status.DrawFault) ⊎ (text ≡ x.prints words)

-- by its status: what a run appends to the bytes written, where a refusal has its line and a failing output a front of a text that may be printed
abbrev pub Tells : Status → Result Effect Refusal → List ℕ → List ℕ → Option (List ℕ) → Type 0
Tells status.Done ready words before now = IsOkAnd ready (λ x. now ≡ Some (before ++ x.prints words))
Tells status.FileFault ready words before now = now ≡ Some (before ++ line_of status.FileFault)
Tells status.DrawFault ready words before now = now ≡ Some (before ++ line_of status.DrawFault)
Tells status.OutOfMemory ready words before now = now ≡ Some before
Tells status.OutputFault ready words before now = (text : List ℕ) × (MayPrint ready words text × ((k : ℕ) × (now ≡ Some (before ++ take k text))))
Tells ended ready words before now = (r : Refusal) × ((ready ≡ Err r) × (now ≡ Some (before ++ line_of_refusal r)))

-- ---- what is promised

-- the files, the draws or the output failed, or memory was short
abbrev pub IsFault : Status → Type 0
IsFault status.FileFault = Unit {0}
IsFault status.DrawFault = Unit {0}
IsFault status.OutputFault = Unit {0}
IsFault status.OutOfMemory = Unit {0}
IsFault s = ⊥

-- how a run ends that nothing refuses: it is done, or something failed
abbrev pub IsDoneOrFault : Status → Type 0
IsDoneOrFault result = (result ≡ status.Done) ⊎ IsFault result

-- the run is done and the text was appended, unless something failed
abbrev pub EndsWith : List ℕ → Status → List ℕ → Option (List ℕ) → Type 0
EndsWith text result before now = ((result ≡ status.Done) × (now ≡ Some (before ++ text))) ⊎ IsFault result

-- what a run leaves, by its status, for some words to come, which are those told where they are
pub record Left (order : Option Order) (m : FileMap) (before after : World) (result : Status) : Type 0 where
  pub words : List ℕ
  pub told : IsTold before.words words
  pub leaves : Leaves result (judged order m) words m before after
  pub tells : IfSome before.written (λ w. Tells result (judged order m) words w after.written)

-- over files that are told
pub record Promises (order : Option Order) (before after : World) (result : Status) : Type 0 where
  -- the status of each refusal comes exactly where the words and the files call for it
  pub refused : IfSome before.held (λ m. (r : Refusal) → ComesWhereRead (CallsFor (status_of r) (judged order m)) (ReadFailed before after) (status_of r) result)
  -- where they call for none, the run is done or something failed
  pub ready : IfSome before.held (λ m. IsOk (judged order m) → IsDoneOrFault result)
  -- what is drawn, written and printed
  pub left : IfSome before.held (λ m. Left order m before after result)
  -- no name but the effect's changed
  pub others : IfSome before.held (λ m. KeepsBut (names (judged order m)) m after.held)
  -- words were drawn only of the effect's number, and without files that are told some first ones
  pub drawn : IfSome before.held (λ m. IfSome before.words (λ ws. LeftAfter (draws (judged order m)) ws after.words))
  pub front : TakesSome before.words after.words

-- ---- how a run goes

-- the status of what a command came to
abbrev pub ended : Result (Vec ℕ) Stopped → Status
ended (Ok text) = status.Done
ended (Err s) = end_of s

-- the text or the line of what a command came to
abbrev pub shown : Result (Vec ℕ) Stopped → List ℕ
shown (Ok text) = text.items
shown (Err s) = line_of_end s

-- a run went through what a command came to, and told of it
pub record Ran (order : Option Order) (before after : World) (result : Status) : Type 0 where
  pub outcome : Result (Vec ℕ) Stopped
  pub meets : IfSome before.held (λ m. Meets (judged order m) m after.held before.words after.words outcome)
  pub early : (s : InputStop) → outcome ≡ Err (stopped.Input s) → Unchanged before after
  pub unwritten : outcome ≡ Err stopped.DrawFault → after.held ≡ before.held
  pub front : TakesSome before.words after.words
  pub files : Counts before.file_faults after.file_faults (FilesFailed outcome)
  pub draws : Counts before.draw_faults after.draw_faults (IsErrOf outcome stopped.DrawFault)
  pub output : Counts before.output_faults after.output_faults (result ≡ status.OutputFault)
  pub ends : EndsAs (ended outcome) result
  pub quiet : ended outcome ≡ status.OutOfMemory → (result ≡ status.OutOfMemory) × (after.written ≡ before.written)
  pub reports : IfSome before.written (λ w. Reports w (shown outcome) (ended outcome) result after.written)
