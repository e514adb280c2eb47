-- What taking bytes into a buffer leaves.
use Rattle.std.specs.Prelude.{◌≡◌, ℕ, ◌≤◌, List, length, take, min, Result, Ok, Err}
use Rattle.spl_outside.specs.Wire.{Wire, Visits, OnlyWire, after_taking}
use Rattle.spl_outside.specs.declared.Failed.{Failed}

-- the first k bytes due were taken to the front of the buffer
pub record Filled (w : Wire) (buf : List ℕ) (k : ℕ) (n : Wire) : Type 0 where
  pub there : k ≤ length w.due
  pub wire : n ≡ after_taking k w
  pub bytes : take k buf ≡ take k w.due

-- the buffer was filled, or as far as the input goes
abbrev pub Fills : Wire → List ℕ → Wire → Result ℕ Failed → Type 0
Fills w buf n (Ok k) = (k ≡ min (length buf) (length w.due)) × Filled w buf k n
Fills w buf n (Err _) = (k : ℕ) × (n ≡ after_taking k w)

-- so at a door
pub record FillsAt (buf : List ℕ) (r : Result ℕ Failed) (v n : Visits) : Type 0 where
  pub wire : Fills v.wire buf n.wire r
  pub others : OnlyWire v n
