-- What a command came to, and how it ended.
use Rattle.std.proofs.Common.{◌≡◌, ℕ, Option, Some, None, Result, Ok, Err, refl, sym, subst, ap, inl, inr}
use Rattle.std.specs.Prelude.{IfSome}
use Rattle.std.specs.Global.{Vec}
use Rattle.splinter_status.specs.declared.status.Status.{Status}
use Rattle.splinter_status.specs.declared.status.Status.TheVariants as status
use Rattle.splinter_status.specs.declared.stops.Refusal.{Refusal}
use Rattle.splinter_status.specs.declared.stops.Refusal.TheVariants as refusal
use Rattle.splinter_status.specs.declared.stops.InputStop.TheVariants as input
use Rattle.splinter_status.specs.declared.stops.Stopped.{Stopped}
use Rattle.splinter_status.specs.declared.stops.Stopped.TheVariants as stopped
use Rattle.splinter_status.specs.Ends.{EndsAs, status_of}
use Rattle.splinter_commands.specs.Meets.{FilesFailed}
use Rattle.splinter_cli.specs.Runs.{ended, IsFault}

-- ---- what may be told

-- what follows where something is told
pub if_some : {A : Type 0} {P Q : A → Type 0} (o : Option A) → ((a : A) → o ≡ Some a → P a → Q a) → IfSome o P → IfSome o Q
if_some None f h = tt
if_some (Some a) f h = f a refl h

-- what is told is this
pub told_as : {A : Type 0} (P : A → Type 0) (o : Option A) (a : A) → o ≡ Some a → IfSome o P → P a
told_as P o a is h = subst (λ k. IfSome k P) is h

-- ---- statuses

-- the status is no refusal's
abbrev pub IsNoRefusal : Status → Type 0
IsNoRefusal status.Done = Unit {0}
IsNoRefusal status.FileFault = Unit {0}
IsNoRefusal status.DrawFault = Unit {0}
IsNoRefusal status.OutputFault = Unit {0}
IsNoRefusal status.OutOfMemory = Unit {0}
IsNoRefusal s = ⊥

pub no_refusal : (r : Refusal) → IsNoRefusal (status_of r) → ⊥
no_refusal refusal.Usage h = h
no_refusal (refusal.Query f) h = h
no_refusal (refusal.Param f) h = h
no_refusal (refusal.Shape f) h = h
no_refusal (refusal.Table f) h = h
no_refusal (refusal.SumBound n c at) h = h
no_refusal (refusal.Frame n f) h = h
no_refusal (refusal.Differ d) h = h
no_refusal (refusal.BadWord i w) h = h
no_refusal (refusal.MissingFile n) h = h
no_refusal (refusal.FileTooLong n) h = h
no_refusal (refusal.SameProvider p) h = h
no_refusal (refusal.NotBuilt p) h = h

-- a refusal's status isn't such a one
pub apart : {A : Type 0} (r : Refusal) (s : Status) → IsNoRefusal s → s ≡ status_of r → A
apart r s h same = absurd (no_refusal r (subst IsNoRefusal same h))

-- a fault that can't be told either is a fault
pub fault_ends : (own result : Status) → IsFault own → EndsAs own result → IsFault result
fault_ends own result fault (inl is) = subst IsFault (sym is) fault
fault_ends own result fault (inr (inl is)) = subst IsFault (sym is) tt
fault_ends own result fault (inr (inr is)) = subst IsFault (sym is) tt

-- ---- outcomes

-- it ended with a fault of the files exactly where a file wasn't read or written
pub file_failed : (outcome : Result (Vec ℕ) Stopped) → ended outcome ≡ status.FileFault → FilesFailed outcome
file_failed (Ok text) same = absurd cc
file_failed (Err (stopped.Input (input.Refused r))) same = apart r status.FileFault tt (sym same)
file_failed (Err (stopped.Input input.FileFault)) same = tt
file_failed (Err (stopped.Input input.OutOfMemory)) same = absurd cc
file_failed (Err stopped.DrawFault) same = absurd cc
file_failed (Err stopped.FileFault) same = tt
file_failed (Err stopped.OutOfMemory) same = absurd cc

pub file_ended : (outcome : Result (Vec ℕ) Stopped) → FilesFailed outcome → ended outcome ≡ status.FileFault
file_ended (Ok text) failed = absurd failed
file_ended (Err (stopped.Input (input.Refused r))) failed = absurd failed
file_ended (Err (stopped.Input input.FileFault)) failed = refl
file_ended (Err (stopped.Input input.OutOfMemory)) failed = absurd failed
file_ended (Err stopped.DrawFault) failed = absurd failed
file_ended (Err stopped.FileFault) failed = refl
file_ended (Err stopped.OutOfMemory) failed = absurd failed

-- and with one of the draws exactly where no word was drawn
pub draw_failed : (outcome : Result (Vec ℕ) Stopped) → ended outcome ≡ status.DrawFault → outcome ≡ Err stopped.DrawFault
draw_failed (Ok text) same = absurd cc
draw_failed (Err (stopped.Input (input.Refused r))) same = apart r status.DrawFault tt (sym same)
draw_failed (Err (stopped.Input input.FileFault)) same = absurd cc
draw_failed (Err (stopped.Input input.OutOfMemory)) same = absurd cc
draw_failed (Err stopped.DrawFault) same = refl
draw_failed (Err stopped.FileFault) same = absurd cc
draw_failed (Err stopped.OutOfMemory) same = absurd cc

pub draw_ended : (outcome : Result (Vec ℕ) Stopped) → outcome ≡ Err stopped.DrawFault → ended outcome ≡ status.DrawFault
draw_ended outcome failed = ap ended failed
