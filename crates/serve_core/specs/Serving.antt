-- What serving a connection sends, and how it ends.
use Rattle.std.specs.Prelude.{◌≡◌, ◌⊎◌, ℕ, ◌≤◌, ◌<◌, List, [], ◌∷◌, ◌++◌, length, take, All}
use Rattle.std.specs.List.{flat_map}
use Rattle.spl_outside.specs.Wire.{Wire, Visits, OnlyWire}
use Rattle.wire_frames.specs.Framing.{framed, longest_request, BeginsTooLong, EndsInside}
use Rattle.serve_core.specs.Replies.{IsReply}
use Rattle.serve_core.specs.declared.end.ServeEnd.{ServeEnd}
use Rattle.serve_core.specs.declared.end.ServeEnd.TheVariants as end

-- a request's frame, and the body of the reply to it
pub record Exchange : Type 0 where
  pub frame : List ℕ
  pub body : List ℕ

-- the frame is none too long, and the body replies to it
pub record IsExchange (reply : List ℕ → List ℕ) (x : Exchange) : Type 0 where
  pub short : length x.frame ≤ longest_request
  pub body : IsReply reply x.frame x.body

-- the bytes of the requests
abbrev pub requests : List Exchange → List ℕ
requests xs = flat_map (λ x. framed x.frame) xs

-- the bytes of the replies
abbrev pub replies : List Exchange → List ℕ
replies xs = flat_map (λ x. framed x.body) xs

-- the reply that tells of too long a length
abbrev pub too_long_reply : List ℕ
too_long_reply = framed (8 ∷ [])

-- nothing was to be sent behind the replies, or before the last one that is allowed the reply to too long a length
abbrev pub IsLast : ℕ → ℕ → List ℕ → List ℕ → Type 0
IsLast most served rest last = (last ≡ []) ⊎ ((served < most) × ((n : ℕ) × BeginsTooLong longest_request rest n) × (last ≡ too_long_reply))

-- how a connection ended after so many whole requests, of at most so many: by what stands behind them in the input,
-- and with what was sent behind their replies
abbrev pub EndsBy : ℕ → ServeEnd → ℕ → List ℕ → List ℕ → Type 0
EndsBy most end.Clean served rest last = (served < most) × ((length rest ≡ 0) × (last ≡ []))
EndsBy most (end.Cut had needed) served rest last = (served < most) × ((0 < length rest) × (EndsInside longest_request rest had needed × (last ≡ [])))
EndsBy most (end.TooLong n) served rest last = (served < most) × (BeginsTooLong longest_request rest n × (last ≡ too_long_reply))
EndsBy most end.Full served rest last = (served ≡ most) × (last ≡ [])
EndsBy most end.Lost served rest last = (served ≤ most) × IsLast most served rest last
EndsBy most end.OutOfMemory served rest last = (served ≤ most) × IsLast most served rest last

-- all of it was sent, or some first bytes of it where the connection was lost or memory was wanting
abbrev pub SentBy : ServeEnd → List ℕ → List ℕ → List ℕ → Type 0
SentBy end.Lost before all now = (k : ℕ) × (now ≡ before ++ take k all)
SentBy end.OutOfMemory before all now = (k : ℕ) × (now ≡ before ++ take k all)
SentBy _ before all now = now ≡ before ++ all

-- behind the last request that is allowed nothing more is taken
abbrev pub LeftBy : ServeEnd → List ℕ → List ℕ → Type 0
LeftBy end.Full rest due = due ≡ rest
LeftBy _ rest due = Unit {0}

-- whole requests of the input, at most so many, were answered in order, and the connection ended so
pub record Serves (reply : List ℕ → List ℕ) (most : ℕ) (w : Wire) (e : ServeEnd) (n : Wire) : Type 0 where
  pub exchanges : List Exchange
  pub rest : List ℕ
  pub last : List ℕ
  pub input : w.due ≡ requests exchanges ++ rest
  pub good : All (IsExchange reply) exchanges
  pub ends : EndsBy most e (length exchanges) rest last
  pub sent : SentBy e w.sent (replies exchanges ++ last) n.sent
  pub left : LeftBy e rest n.due

-- so at a door
pub record ServesAt (reply : List ℕ → List ℕ) (most : ℕ) (e : ServeEnd) (v n : Visits) : Type 0 where
  pub wire : Serves reply most v.wire e n.wire
  pub others : OnlyWire v n
