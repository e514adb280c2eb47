-- What a reply is, and what it says.
use Rattle.std.specs.Prelude.{◌≡◌, ℕ, ◌≤◌, ◌<◌, ◌^◌, List, [], ◌∷◌, ◌++◌, length, ◌==◌, ◌&&◌, nat_le, if◌then◌else◌, Result, Ok, Err}
use Rattle.std.specs.Int.{w32, to_be_bytes}
use Rattle.std.specs.Global.{Vec}
use Rattle.spl_outside.specs.Wire.{Wire}
use Rattle.spl_words.specs.declared.fault.FrameFault.TheVariants as frame
use Rattle.wire_frames.specs.Framing.{framed, longest_body, EndsInside}
use Rattle.link_exchange.specs.declared.replies.Body.{Body}
use Rattle.link_exchange.specs.declared.replies.Body.TheVariants as body
use Rattle.link_exchange.specs.declared.replies.LinkStop.{LinkStop}
use Rattle.link_exchange.specs.declared.replies.LinkStop.TheVariants as stop
use Rattle.link_exchange.specs.declared.replies.ReplyFault.{ReplyFault}
use Rattle.link_exchange.specs.declared.replies.ReplyFault.TheVariants.{Refused, Frame}

-- these bytes were taken from the front of those due, and nothing was sent
pub record Took (taken : List ℕ) (w n : Wire) : Type 0 where
  pub sent : n.sent ≡ w.sent
  pub got : n.got ≡ w.got ++ taken
  pub due : w.due ≡ taken ++ n.due

-- so many bytes were taken for a body, or as many as there were
abbrev pub IsBody : ℕ → List ℕ → List ℕ → Result (Vec ℕ) LinkStop → Type 0
IsBody needed taken due (Ok v) = (v.items ≡ taken) × (length taken ≡ needed)
IsBody needed taken due (Err (stop.Ended had all)) = (length taken ≡ had) × ((had < needed) × ((all ≡ needed) × (due ≡ [])))
IsBody needed taken due (Err _) = Unit {0}

-- what taking so many bytes leaves
pub record TakesBody (needed : ℕ) (r : Result (Vec ℕ) LinkStop) (w n : Wire) : Type 0 where
  pub taken : List ℕ
  pub took : Took taken w n
  pub body : IsBody needed taken n.due r

-- the bytes of a whole reply, or of the length of one whose body is too large
abbrev pub IsReply : List ℕ → Body → Type 0
IsReply taken (body.Whole v) = (taken ≡ framed v.items) × (length v.items ≤ longest_body)
IsReply taken body.TooLarge = (n : ℕ) × (taken ≡ to_be_bytes w32 n) × ((longest_body < n) × (n < 2 ^ 32))

-- a reply was taken, or the bytes ended inside it
abbrev pub FindsReply : List ℕ → List ℕ → Result Body LinkStop → Type 0
FindsReply taken due (Ok b) = IsReply taken b
FindsReply taken due (Err (stop.Ended had needed)) = EndsInside longest_body taken had needed × (due ≡ [])
FindsReply taken due (Err _) = Unit {0}

-- what taking a reply leaves
pub record TakesReply (r : Result Body LinkStop) (w n : Wire) : Type 0 where
  pub taken : List ℕ
  pub took : Took taken w n
  pub reply : FindsReply taken n.due r

-- the bytes of the answer in a body, behind its first byte 0; or the code that it is, or why it is no body
abbrev pub answer_of : List ℕ → Result (List ℕ) ReplyFault
answer_of [] = Err (Frame (frame.Short 1 0))
answer_of (first ∷ rest) =
    if first == 0 then Ok rest
    else if length rest == 0 && nat_le first 8 then Err (Refused first)
    else Err (Frame (frame.BadField 0))

-- so in a body that may be too large
abbrev pub answer_in : Body → Result (List ℕ) ReplyFault
answer_in (body.Whole v) = answer_of v.items
answer_in body.TooLarge = Err (Frame frame.TooLarge)
