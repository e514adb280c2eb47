-- What writing some files leaves.
use Rattle.std.specs.Prelude.{◌≡◌, ◌⊎◌, ℕ, ◌<◌, List, [], ◌∷◌, length, take, Option, Some, IsSomeAnd, Result, Ok, Err}
use Rattle.std.specs.FinMap.{insert}
use Rattle.spl_outside.specs.Content.{FileMap, KeepsOthers}
use Rattle.splinter_status.specs.declared.stops.Stopped.{Stopped}
use Rattle.splinter_status.specs.declared.stops.Stopped.TheVariants as stopped

-- the files, and after them each name holds its bytes, one after another
unfoldable pub put_all : List (List ℕ × List ℕ) → FileMap → FileMap
put_all [] m = m
put_all (o ∷ os) m = put_all os (insert m o.0 o.1)

-- so many first ones were written, and no other name changed
abbrev pub PutsFirst : ℕ → List (List ℕ × List ℕ) → FileMap → Option FileMap → Type 0
PutsFirst count os m now = now ≡ Some (put_all (take count os) m)

-- some first ones were written, and of the others only the next may hold anything else
unfoldable pub PutsSome : List (List ℕ × List ℕ) → FileMap → Option FileMap → Type 0
PutsSome [] m now = now ≡ Some m
PutsSome (o ∷ os) m now = IsSomeAnd now (KeepsOthers m o.0) ⊎ PutsSome os (insert m o.0 o.1) now

-- all were written; after a fault some first ones, and the next may hold anything; without memory some first ones, not all, and no other changed
abbrev pub Puts : List (List ℕ × List ℕ) → FileMap → Option FileMap → Result (Unit {0}) Stopped → Type 0
Puts os m now (Ok _) = now ≡ Some (put_all os m)
Puts os m now (Err stopped.FileFault) = PutsSome os m now
Puts os m now (Err stopped.OutOfMemory) = (count : ℕ) × ((count < length os) × PutsFirst count os m now)
Puts os m now (Err _) = ⊥
