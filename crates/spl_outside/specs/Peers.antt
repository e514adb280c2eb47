-- What the connections in memory hold.
use Rattle.std.specs.Prelude.{◌≡◌, ℕ, ◌+◌, ◌-◌, ◌≤◌, ◌<◌, max, nat_lt, Bool, List, [], ◌∷◌, ◌++◌, length, take, drop, slice_index_or, slice_set}
use Rattle.spl_outside.specs.Wire.{Wire, Visits}
use Rattle.spl_outside.specs.Fails.{Failing}

-- bytes of a peer: those taken, and those due
pub record Input : Type 0 where
  pub got : List ℕ
  pub due : List ℕ

-- after so many of them were taken
abbrev pub input_after : ℕ → Input → Input
input_after k i = record { got = i.got ++ take k i.due; due = drop k i.due }

-- a piece of the first of these sizes: no more bytes than it says, where one is always let through; past the
-- last size a piece has no limit
abbrev pub IsPiece : List ℕ → ℕ → Type 0
IsPiece [] k = Unit {0}
IsPiece (size ∷ sizes) k = k ≤ max size 1

-- a link in memory, what comes due at each of the sends to come, and the sizes of the pieces to come
pub record LinkState : Type 0 where
  pub wire : Wire
  pub script : List (List ℕ)
  pub pieces : List ℕ
  pub failing : Failing

-- what comes due at the next send
abbrev pub first_of : List (List ℕ) → List ℕ
first_of [] = []
first_of (xs ∷ rest) = xs

-- a list for each connection: the bytes sent on each that has begun, and the bytes that come on each of the others
pub record Rooms : Type 0 where
  pub begun : ℕ
  pub lists : List (List ℕ)

-- the next connection's bytes were taken, and nothing is sent on it yet
pub record TakesRoom (r : Rooms) (taken : List ℕ) (n : Rooms) : Type 0 where
  pub more : r.begun < length r.lists
  pub bytes : taken ≡ slice_index_or r.lists r.begun []
  pub rooms : n ≡ record { begun = r.begun + 1; lists = slice_set r.lists r.begun [] }

-- what a door with these rooms and this input of the latest connection tells
abbrev pub visits_of : Rooms → Input → Visits
visits_of r i = record {
  coming = drop r.begun r.lists;
  begun = nat_lt 0 r.begun;
  wire = record { sent = slice_index_or r.lists (r.begun - 1) []; got = i.got; due = i.due };
  earlier = take (r.begun - 1) r.lists;
}

-- a door in memory, and the sizes of the pieces to come
pub record DoorState : Type 0 where
  pub visits : Visits
  pub present : Bool
  pub pieces : List ℕ
  pub failing : Failing
  pub losses : ℕ

-- a door in memory that never fails
pub record SteadyState : Type 0 where
  pub visits : Visits
  pub present : Bool
