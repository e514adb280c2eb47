-- How the error of a step becomes that of the phase round it.
use Rattle.std.specs.Prelude.{◌≡◌, ℕ, List, Result, Ok, Err}
use Rattle.std.specs.Global.{Vec}
use Rattle.spl_values.specs.declared.shape_reader.ShapeFault.TheVariants as shape
use Rattle.query_parser.specs.declared.fault.QueryFault.TheVariants as query
use Rattle.query_reader.specs.declared.params.ParamFault.TheVariants as param
use Rattle.csv_tables.specs.declared.fault.TableFault.TheVariants as table
use Rattle.spl_words.specs.declared.fault.FrameFault.TheVariants as frame
use Rattle.splinter_status.specs.declared.stops.InputStop.{InputStop}
use Rattle.splinter_status.specs.declared.stops.InputStop.TheVariants as input
use Rattle.splinter_status.specs.declared.status.Part.TheVariants as part
use Rattle.splinter_status.specs.declared.stops.ReadStop.{ReadStop}
use Rattle.splinter_status.specs.declared.stops.ReadStop.TheVariants as read
use Rattle.splinter_status.specs.declared.stops.Refusal.{Refusal}
use Rattle.splinter_status.specs.declared.stops.Refusal.TheVariants as refusal
use Rattle.splinter_status.specs.declared.stops.Stopped.{Stopped}
use Rattle.splinter_status.specs.declared.stops.Stopped.TheVariants as stopped

-- a file that isn't held or is too long is a refusal
abbrev pub read_stop : ReadStop → InputStop
read_stop (read.Missing name) = input.Refused (refusal.MissingFile name)
read_stop (read.TooLong name) = input.Refused (refusal.FileTooLong name)
read_stop read.Fault = input.FileFault
read_stop read.OutOfMemory = input.OutOfMemory

-- what was read is the file, unless the files failed or memory was short
abbrev pub ReadGives : Result (Vec ℕ) ReadStop → Result (List ℕ) Refusal → Type 0
ReadGives (Ok v) step = step ≡ Ok v.items
ReadGives (Err (read.Missing name)) step = step ≡ Err (refusal.MissingFile name)
ReadGives (Err (read.TooLong name)) step = step ≡ Err (refusal.FileTooLong name)
ReadGives (Err read.Fault) step = Unit {0}
ReadGives (Err read.OutOfMemory) step = Unit {0}

-- what was read is what the step gives, its value seen by `view`, unless the files failed or memory was short
abbrev pub InputGives : {X Y : Type 0} → (X → Y) → Result X InputStop → Result Y Refusal → Type 0
InputGives view (Ok x) step = step ≡ Ok (view x)
InputGives view (Err (input.Refused r)) step = step ≡ Err r
InputGives view (Err input.FileFault) step = Unit {0}
InputGives view (Err input.OutOfMemory) step = Unit {0}

-- a refusal of what files hold: the words form a command, no fault in it is want of memory, and of all parts only a plan can have a form that isn't built
abbrev pub IsOfFiles : Refusal → Type 0
IsOfFiles refusal.Usage = ⊥
IsOfFiles (refusal.Query query.OutOfMemory) = ⊥
IsOfFiles (refusal.Param param.OutOfMemory) = ⊥
IsOfFiles (refusal.Shape shape.OutOfMemory) = ⊥
IsOfFiles (refusal.Table table.OutOfMemory) = ⊥
IsOfFiles (refusal.Frame name frame.OutOfMemory) = ⊥
IsOfFiles (refusal.NotBuilt part.Table) = ⊥
IsOfFiles (refusal.NotBuilt part.Shape) = ⊥
IsOfFiles (refusal.NotBuilt part.Query) = ⊥
IsOfFiles (refusal.NotBuilt part.Parameter) = ⊥
IsOfFiles _ = Unit {0}

-- a refusal here is one of what files hold
abbrev pub StopsAtFiles : InputStop → Type 0
StopsAtFiles (input.Refused r) = IsOfFiles r
StopsAtFiles _ = Unit {0}

-- the same for a command
abbrev pub EndsAtFiles : Stopped → Type 0
EndsAtFiles (stopped.Input s) = StopsAtFiles s
EndsAtFiles _ = Unit {0}
