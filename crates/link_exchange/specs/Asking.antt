-- A round over two links.
use Rattle.std.specs.Prelude.{◌≡◌, ℕ, List, [], ◌++◌, take, Result, Ok, Err}
use Rattle.spl_outside.specs.Wire.{Wire}
use Rattle.spl_outside.specs.declared.Stop.{Stop}
use Rattle.spl_outside.specs.declared.Stop.TheVariants as stop
use Rattle.wire_frames.specs.Framing.{framed, longest_body, EndsInside}
use Rattle.link_exchange.specs.Replying.{IsReply}
use Rattle.link_exchange.specs.declared.exchanges.Bodies.{Bodies}
use Rattle.link_exchange.specs.declared.exchanges.RoundFault.{RoundFault}
use Rattle.link_exchange.specs.declared.exchanges.RoundFault.TheVariants as fault
use Rattle.link_exchange.specs.declared.exchanges.Side.{Side}
use Rattle.link_exchange.specs.declared.exchanges.Side.TheVariants as side_of
use Rattle.link_exchange.specs.declared.replies.Body.{Body}
use Rattle.link_exchange.specs.declared.replies.LinkStop.{LinkStop}
use Rattle.link_exchange.specs.declared.replies.LinkStop.TheVariants as link_stop

-- the fault that a failed send makes
abbrev pub send_fault : Side → Stop → RoundFault
send_fault side stop.Failed = fault.LinkFault side
send_fault side stop.OutOfMemory = fault.OutOfMemory

-- the fault that a reply which wasn't taken makes
abbrev pub take_fault : Side → LinkStop → RoundFault
take_fault side link_stop.Failed = fault.LinkFault side
take_fault side (link_stop.Ended had needed) = fault.LinkEnded side had needed
take_fault side link_stop.OutOfMemory = fault.OutOfMemory

-- the body from a side
abbrev pub body_on : Side → Bodies → Body
body_on side_of.Left bodies = bodies.left
body_on side_of.Right bodies = bodies.right

-- the request was sent, or where the round failed some first bytes of it
abbrev pub SentOf : List ℕ → Result Bodies RoundFault → List ℕ → List ℕ → Type 0
SentOf frame (Ok _) before now = now ≡ before ++ framed frame
SentOf frame (Err _) before now = (k : ℕ) × (now ≡ before ++ take k (framed frame))

-- what the end of a link's bytes says of those taken on a side, and of those that it left due: on its own side they
-- ended inside a reply; a reply was taken left before the right one was begun
abbrev pub EndedSays : Side → Side → ℕ → ℕ → List ℕ → List ℕ → Type 0
EndedSays side_of.Left side_of.Left had needed taken due = EndsInside longest_body taken had needed × (due ≡ [])
EndedSays side_of.Left side_of.Right had needed taken due = (b : Body) × IsReply taken b
EndedSays side_of.Right side_of.Left had needed taken due = taken ≡ []
EndedSays side_of.Right side_of.Right had needed taken due = EndsInside longest_body taken had needed × (due ≡ [])

-- what a round says of the bytes that it took on a side, and of those that it left due
abbrev pub SaysOf : Side → Result Bodies RoundFault → List ℕ → List ℕ → Type 0
SaysOf side (Ok bodies) taken due = IsReply taken (body_on side bodies)
SaysOf side (Err (fault.LinkEnded ended had needed)) taken due = EndedSays side ended had needed taken due
SaysOf side (Err _) taken due = Unit {0}

-- one side of a round: the bytes that came due in it, and those that were taken
pub record Asked (side : Side) (frame : List ℕ) (r : Result Bodies RoundFault) (w n : Wire) : Type 0 where
  pub sent : SentOf frame r w.sent n.sent
  pub came : List ℕ
  pub taken : List ℕ
  pub due : w.due ++ came ≡ taken ++ n.due
  pub got : n.got ≡ w.got ++ taken
  pub says : SaysOf side r taken n.due
