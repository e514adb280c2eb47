-- What a round says of one side.
use Rattle.std.proofs.Common.{ℕ, List, [], ◌++◌, length, Result, Ok, Err, refl, sym, ap, ◌∙◌, append-nil}
use Rattle.std.proofs.Math.Seq.{take-length}
use Rattle.spl_outside.specs.Wire.{Wire}
use Rattle.spl_outside.specs.declared.Stop.{Stop}
use Rattle.spl_outside.specs.declared.Stop.TheVariants as stop
use Rattle.wire_frames.specs.Framing.{framed}
use Rattle.wire_frames.specs.Sending.{SendsFrame}
use Rattle.link_exchange.specs.declared.exchanges.Bodies.{Bodies}
use Rattle.link_exchange.specs.declared.exchanges.RoundFault.{RoundFault}
use Rattle.link_exchange.specs.declared.exchanges.Side.{Side}
use Rattle.link_exchange.specs.declared.exchanges.Side.TheVariants as side_of
use Rattle.link_exchange.specs.declared.replies.Body.{Body}
use Rattle.link_exchange.specs.declared.replies.LinkStop.{LinkStop}
use Rattle.link_exchange.specs.declared.replies.LinkStop.TheVariants as link_stop
use Rattle.link_exchange.specs.Replying.{TakesReply}
use Rattle.link_exchange.specs.Asking.{send_fault, take_fault, body_on, SaysOf, Asked}

-- what the fault says of a side where nothing was taken
abbrev pub Silent : Side → RoundFault → Type 0
Silent side e = (due : List ℕ) → SaysOf side (Err e) [] due

pub silent_send : (side s : Side) (why : Stop) → Silent side (send_fault s why)
silent_send side s stop.Failed = λ d. tt
silent_send side s stop.OutOfMemory = λ d. tt

-- the left reply wasn't taken, so the right one wasn't begun
pub silent_take : (why : LinkStop) → Silent side_of.Right (take_fault side_of.Left why)
silent_take link_stop.Failed = λ d. tt
silent_take (link_stop.Ended had needed) = λ d. refl
silent_take link_stop.OutOfMemory = λ d. tt

-- a reply that wasn't taken
pub taken_says : (side : Side) (why : LinkStop) (a b : Wire) (p : TakesReply (Err why) a b) → SaysOf side (Err (take_fault side why)) p.taken b.due
taken_says side link_stop.Failed a b p = tt
taken_says side_of.Left (link_stop.Ended had needed) a b p = p.reply
taken_says side_of.Right (link_stop.Ended had needed) a b p = p.reply
taken_says side link_stop.OutOfMemory a b p = tt

-- the left reply was taken, and the right one wasn't
pub left_says : (why : LinkStop) (body : Body) (a b : Wire) (p : TakesReply (Ok body) a b) → SaysOf side_of.Left (Err (take_fault side_of.Right why)) p.taken b.due
left_says link_stop.Failed body a b p = tt
left_says (link_stop.Ended had needed) body a b p = (body, p.reply)
left_says link_stop.OutOfMemory body a b p = tt

-- nothing was done on this side
pub asked_nothing : (side : Side) (frame : List ℕ) (e : RoundFault) (w : Wire) → Silent side e → Asked side frame (Err e) w w
asked_nothing side frame e w silent = record {
  sent = (0, sym (append-nil w.sent));
  came = [];
  taken = [];
  due = append-nil w.due;
  got = sym (append-nil w.got);
  says = silent w.due;
}

-- the request was sent or a part of it, and nothing more was done on this side
pub asked_sent : (side : Side) (frame : List ℕ) (r : Result (Unit {0}) Stop) (e : RoundFault) (w n : Wire) → Silent side e → SendsFrame frame r w n → Asked side frame (Err e) w n
asked_sent side frame (Ok u) e w n silent p = record {
  sent = (length (framed frame), p.sent ∙ ap (λ (s : List ℕ). w.sent ++ s) (sym (take-length (framed frame))));
  came = p.due.0;
  taken = [];
  due = sym p.due.1;
  got = p.got ∙ sym (append-nil w.got);
  says = silent n.due;
}
asked_sent side frame (Err f) e w n silent p = record {
  sent = p.sent;
  came = p.due.0;
  taken = [];
  due = sym p.due.1;
  got = p.got ∙ sym (append-nil w.got);
  says = silent n.due;
}

-- the request was sent, a reply was taken or wasn't, and the round failed
pub asked_failed : (side : Side) (frame : List ℕ) (u : Unit {0}) (r : Result Body LinkStop) (e : RoundFault) (w a b : Wire) (p : SendsFrame frame (Ok u) w a) (q : TakesReply r a b) → SaysOf side (Err e) q.taken b.due → Asked side frame (Err e) w b
asked_failed side frame u r e w a b p q says = record {
  sent = (length (framed frame), q.took.sent ∙ p.sent ∙ ap (λ (s : List ℕ). w.sent ++ s) (sym (take-length (framed frame))));
  came = p.due.0;
  taken = q.taken;
  due = sym p.due.1 ∙ q.took.due;
  got = q.took.got ∙ ap (λ (s : List ℕ). s ++ q.taken) p.got;
  says = says;
}

-- the request was sent and the reply was taken
pub asked_whole : (side : Side) (frame : List ℕ) (u : Unit {0}) (bodies : Bodies) (w a b : Wire) → SendsFrame frame (Ok u) w a → TakesReply (Ok (body_on side bodies)) a b → Asked side frame (Ok bodies) w b
asked_whole side frame u bodies w a b p q = record {
  sent = q.took.sent ∙ p.sent;
  came = p.due.0;
  taken = q.taken;
  due = sym p.due.1 ∙ q.took.due;
  got = q.took.got ∙ ap (λ (s : List ℕ). s ++ q.taken) p.got;
  says = q.reply;
}
