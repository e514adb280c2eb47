-- What sending a frame leaves.
use Rattle.std.specs.Prelude.{◌≡◌, ℕ, List, ◌++◌, Result}
use Rattle.spl_outside.specs.Wire.{Wire, Visits, OnlyWire, AppendsSent}
use Rattle.spl_outside.specs.declared.Stop.{Stop}
use Rattle.wire_frames.specs.Framing.{framed}

-- a frame was sent over a link, or some first bytes of it; nothing was taken, and more may have come due
pub record SendsFrame (bytes : List ℕ) (r : Result (Unit {0}) Stop) (w n : Wire) : Type 0 where
  pub sent : AppendsSent w.sent (framed bytes) n.sent r
  pub got : n.got ≡ w.got
  pub due : (more : List ℕ) × (n.due ≡ w.due ++ more)

-- a frame was sent at a door, or some first bytes of it; nothing was taken or came due
pub record SendsFrameAt (bytes : List ℕ) (r : Result (Unit {0}) Stop) (v n : Visits) : Type 0 where
  pub sent : AppendsSent v.wire.sent (framed bytes) n.wire.sent r
  pub got : n.wire.got ≡ v.wire.got
  pub due : n.wire.due ≡ v.wire.due
  pub others : OnlyWire v n
