-- How a command ends, and what it leaves in the sink.
use Rattle.std.specs.Prelude.{◌≡◌, ◌⊎◌, ℕ, List, ◌++◌, take, Option, Some}
use Rattle.spl_outside.specs.Causes.{HasCause}
use Rattle.splinter_status.specs.Texts.{line, line_of, sum_text}
use Rattle.splinter_status.specs.declared.status.Status.{Status}
use Rattle.splinter_status.specs.declared.status.Status.TheVariants as status
use Rattle.splinter_status.specs.declared.stops.Refusal.{Refusal}
use Rattle.splinter_status.specs.declared.stops.Refusal.TheVariants as refusal
use Rattle.splinter_status.specs.declared.stops.Stopped.{Stopped}
use Rattle.splinter_status.specs.declared.stops.Stopped.TheVariants as stopped
use Rattle.splinter_status.specs.declared.stops.InputStop.TheVariants as input

-- the status of a refusal
abbrev pub status_of : Refusal → Status
status_of refusal.Usage = status.Usage
status_of (refusal.Query fault) = status.Query fault
status_of (refusal.Param fault) = status.Param fault
status_of (refusal.Shape fault) = status.Shape fault
status_of (refusal.Table fault) = status.Table fault
status_of (refusal.SumBound name column at) = status.SumBound column at
status_of (refusal.Frame name fault) = status.Frame name fault
status_of (refusal.Differ which) = status.Differ which
status_of (refusal.BadWord number word) = status.BadWord number word
status_of (refusal.MissingFile name) = status.MissingFile name
status_of (refusal.FileTooLong name) = status.FileTooLong name
status_of (refusal.SameProvider p) = status.SameProvider p
status_of (refusal.NotBuilt p) = status.NotBuilt p

-- the status of a command that stopped early
abbrev pub end_of : Stopped → Status
end_of (stopped.Input (input.Refused r)) = status_of r
end_of (stopped.Input input.FileFault) = status.FileFault
end_of (stopped.Input input.OutOfMemory) = status.OutOfMemory
end_of stopped.DrawFault = status.DrawFault
end_of stopped.FileFault = status.FileFault
end_of stopped.OutOfMemory = status.OutOfMemory

-- the line of a refusal: that of its status, and for a sum the one that names the column
abbrev pub line_of_refusal : Refusal → List ℕ
line_of_refusal (refusal.SumBound name column at) = line (sum_text name at)
line_of_refusal r = line_of (status_of r)

-- the line of a command that stopped early
abbrev pub line_of_end : Stopped → List ℕ
line_of_end (stopped.Input (input.Refused r)) = line_of_refusal r
line_of_end s = line_of (end_of s)

-- the status is this one, unless its text couldn't be printed
abbrev pub EndsAs : Status → Status → Type 0
EndsAs ended result = (result ≡ ended) ⊎ (result ≡ status.OutputFault) ⊎ (result ≡ status.OutOfMemory)

-- the status comes exactly where there is this cause, unless its line can't be printed
pub record ComesExactlyWhere (cause : Type 0) (refused result : Status) : Type 0 where
  pub only : result ≡ refused → cause
  pub always : cause → EndsAs refused result

-- the same, but in its place there may be a file fault where a read failed
pub record ComesWhereRead (cause failed : Type 0) (refused result : Status) : Type 0 where
  pub only : result ≡ refused → cause
  pub always : cause → EndsAs refused result ⊎ ((result ≡ status.FileFault) × failed)

-- the count rose where the status tells of this fault, and else stayed, unless its line couldn't be printed
pub record CountsAs (fault : Status) (before now : ℕ) (result : Status) : Type 0 where
  pub cause : HasCause before now (result ≡ fault)
  pub quiet : (EndsAs fault result → ⊥) → now ≡ before

-- the status is this one and the text was appended; or the sink failed behind a front of it; or it found no memory
abbrev pub Reports : List ℕ → List ℕ → Status → Status → Option (List ℕ) → Type 0
Reports before text ended result now =
    ((result ≡ ended) × (now ≡ Some (before ++ text)))
    ⊎ ((result ≡ status.OutputFault) × ((k : ℕ) × (now ≡ Some (before ++ take k text))))
    ⊎ ((result ≡ status.OutOfMemory) × (now ≡ Some before))
