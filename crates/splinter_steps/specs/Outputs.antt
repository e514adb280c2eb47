-- Files to be written as the program holds them, and how writing them ends.
use Rattle.std.specs.Prelude.{ℕ, List}
use Rattle.splinter_status.specs.declared.stops.Stopped.{Stopped}
use Rattle.splinter_status.specs.declared.stops.Stopped.TheVariants as stopped
use Rattle.splinter_steps.specs.declared.writing.Output.{Output}

-- the name and the bytes, wherever they lie in memory
abbrev pub output : Output → List ℕ × List ℕ
output file = (file.name.now, file.bytes.now)

-- the files failed, or memory was short
abbrev pub IsLate : Stopped → Type 0
IsLate stopped.FileFault = Unit {0}
IsLate stopped.OutOfMemory = Unit {0}
IsLate _ = ⊥
