-- One request of a connection.
use Rattle.std.specs.Prelude.{◌≡◌, ℕ, ◌≤◌, ◌<◌, List, ◌++◌, length, take, Result, Ok, Err}
use Rattle.std.specs.Int.{w32, to_be_bytes}
use Rattle.spl_outside.specs.Wire.{Wire, Visits, OnlyWire}
use Rattle.spl_outside.specs.declared.Stop.{Stop}
use Rattle.spl_outside.specs.declared.Stop.TheVariants as stop
use Rattle.wire_frames.specs.Framing.{framed, longest_request, BeginsTooLong, EndsInside}
use Rattle.serve_core.specs.Serving.{Exchange, IsExchange, ServesAt}
use Rattle.serve_core.specs.declared.end.ServeEnd.{ServeEnd}
use Rattle.serve_core.specs.declared.end.ServeEnd.TheVariants as end
use Rattle.serve_core.specs.declared.serving.Taken.{Taken}
use Rattle.serve_core.specs.declared.serving.Taken.TheVariants as taken

-- a request was taken: its frame stands in the room; or the input begins with too long a length, or ends
abbrev pub TakesRequest : Wire → List ℕ → Wire → Taken → Type 0
TakesRequest w room n (taken.Frame k) = (k ≤ longest_request) × (w.due ≡ to_be_bytes w32 k ++ (take k room ++ n.due))
TakesRequest w room n (taken.TooLong k) = BeginsTooLong longest_request w.due k
TakesRequest w room n (taken.Ended end.Clean) = length w.due ≡ 0
TakesRequest w room n (taken.Ended (end.Cut had needed)) = (0 < length w.due) × EndsInside longest_request w.due had needed
TakesRequest w room n (taken.Ended end.Lost) = Unit {0}
TakesRequest w room n (taken.Ended _) = ⊥

-- so at a door; nothing is sent
pub record TakesRequestAt (room : List ℕ) (r : Taken) (v n : Visits) : Type 0 where
  pub wire : TakesRequest v.wire room n.wire r
  pub sent : n.wire.sent ≡ v.wire.sent
  pub others : OnlyWire v n

-- a frame is no longer than the room
abbrev pub FitsRoom : List ℕ → Taken → Type 0
FitsRoom room (taken.Frame k) = k ≤ length room
FitsRoom room _ = Unit {0}

-- the end that a failed send makes
abbrev pub end_of : Stop → ServeEnd
end_of stop.Failed = end.Lost
end_of stop.OutOfMemory = end.OutOfMemory

-- one request was answered
pub record AnswersOne (reply : List ℕ → List ℕ) (v n : Visits) : Type 0 where
  pub exchange : Exchange
  pub good : IsExchange reply exchange
  pub input : v.wire.due ≡ framed exchange.frame ++ n.wire.due
  pub sent : n.wire.sent ≡ v.wire.sent ++ framed exchange.body
  pub others : OnlyWire v n

-- one request was answered, or the connection ended so, however many requests there may be
abbrev pub OneAt : (List ℕ → List ℕ) → Result (Unit {0}) ServeEnd → Visits → Visits → Type 0
OneAt reply (Ok _) v n = AnswersOne reply v n
OneAt reply (Err e) v n = (most : ℕ) → 1 ≤ most → ServesAt reply most e v n
