-- How a command comes out, up to the text that it prints.
use Rattle.std.specs.Prelude.{◌≡◌, ℕ, List, drop, Option, Some, None, IfSome, IsOk, IsOkAnd, Result, Ok, Err}
use Rattle.std.specs.Global.{Vec}
use Rattle.spl_outside.specs.Content.{FileMap, LeftAfter}
use Rattle.splinter_status.specs.declared.stops.Refusal.{Refusal}
use Rattle.splinter_status.specs.declared.stops.InputStop.TheVariants as input
use Rattle.splinter_status.specs.declared.stops.Stopped.{Stopped}
use Rattle.splinter_status.specs.declared.stops.Stopped.TheVariants as stopped
use Rattle.splinter_steps.specs.Writes.{put_all, PutsFirst, PutsSome}
use Rattle.splinter_commands.specs.Effects.{Effect, draws, outputs}

-- it is what is told, where anything is
abbrev pub IsTold : {A : Type 0} → Option A → A → Type 0
IsTold (Some told) x = x ≡ told
IsTold None x = Unit {0}

-- by how a command came out: what the words and the files come to, its text, and what the files hold behind it, where these are the words to come
abbrev pub Ends : Result (Vec ℕ) Stopped → Result Effect Refusal → List ℕ → FileMap → Option FileMap → Type 0
Ends (Ok text) ready words m held = IsOkAnd ready (λ x. (text.items ≡ x.prints words) × (held ≡ Some (put_all (outputs x words) m)))
Ends (Err (stopped.Input (input.Refused r))) ready words m held = (ready ≡ Err r) × (held ≡ Some m)
Ends (Err (stopped.Input input.FileFault)) ready words m held = held ≡ Some m
Ends (Err (stopped.Input input.OutOfMemory)) ready words m held = held ≡ Some m
Ends (Err stopped.DrawFault) ready words m held = IsOk ready × (held ≡ Some m)
Ends (Err stopped.FileFault) ready words m held = IsOkAnd ready (λ x. PutsSome (outputs x words) m held)
Ends (Err stopped.OutOfMemory) ready words m held = IsOkAnd ready (λ x. (count : ℕ) × PutsFirst count (outputs x words) m held)

-- of so many words all are drawn where the command is done or a file isn't written, none before it is ready, and else some first ones
abbrev pub Takes : Result (Vec ℕ) Stopped → ℕ → List ℕ → Option (List ℕ) → Type 0
Takes (Ok text) count words left = left ≡ Some (drop count words)
Takes (Err (stopped.Input s)) count words left = left ≡ Some words
Takes (Err stopped.FileFault) count words left = left ≡ Some (drop count words)
Takes (Err stopped.DrawFault) count words left = LeftAfter count words left
Takes (Err stopped.OutOfMemory) count words left = LeftAfter count words left

-- both, over files that are told; where the words to come aren't told, they are some words
pub record Meets (ready : Result Effect Refusal) (m : FileMap) (held : Option FileMap) (words left : Option (List ℕ)) (result : Result (Vec ℕ) Stopped) : Type 0 where
  pub ends : (ws : List ℕ) × (IsTold words ws × Ends result ready ws m held)
  pub takes : IfSome words (λ ws. Takes result (draws ready) ws left)

-- a file couldn't be read or written
abbrev pub FilesFailed : Result (Vec ℕ) Stopped → Type 0
FilesFailed (Err (stopped.Input input.FileFault)) = Unit {0}
FilesFailed (Err stopped.FileFault) = Unit {0}
FilesFailed _ = ⊥

-- of the words to come some first ones were taken
abbrev pub TakesSome : Option (List ℕ) → Option (List ℕ) → Type 0
TakesSome words left = IfSome words (λ ws. (count : ℕ) × (left ≡ Some (drop count ws)))

-- the draws failed, or memory was short
abbrev pub IsDrawing : Stopped → Type 0
IsDrawing stopped.DrawFault = Unit {0}
IsDrawing stopped.OutOfMemory = Unit {0}
IsDrawing _ = ⊥
