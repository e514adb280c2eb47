-- One request more, and the end of a connection.
use Rattle.std.proofs.Common.{◌≡◌, ℕ, ◌+◌, ◌-◌, ◌≤◌, ◌<◌, ◌⊎◌, List, [], ◌∷◌, ◌++◌, length, take, All, Ok, Err, refl, sym, ap, subst, ◌∙◌, arith, append-nil, length-append, inl, inr}
use Rattle.std.proofs.Math.Seq.{take-append-add}
use Rattle.std.proofs.lemmas.List.{append_assoc, length-take-le}
use Rattle.std.proofs.lemmas.Grind.{flat_map-append}
use Rattle.std.proofs.lemmas.List.Elements.{All-append, All-cons, All-nil}
use Rattle.std.specs.Int.{w32, to_be_bytes}
use Rattle.spl_outside.specs.Wire.{Visits, OnlyWire}
use Rattle.spl_outside.specs.declared.Stop.{Stop}
use Rattle.spl_outside.specs.declared.Stop.TheVariants as stop
use Rattle.wire_frames.specs.Framing.{framed, longest_request, BeginsTooLong}
use Rattle.wire_frames.specs.Sending.{SendsFrameAt}
use Rattle.wire_frames.proofs.Telling.{only_twice, only_itself}
use Rattle.serve_core.specs.declared.end.ServeEnd.{ServeEnd}
use Rattle.serve_core.specs.declared.end.ServeEnd.TheVariants as end
use Rattle.serve_core.specs.declared.serving.Taken.TheVariants as taken
use Rattle.serve_core.specs.Replies.{RepliesAt}
use Rattle.serve_core.specs.Serving.{Exchange, IsExchange, requests, replies, too_long_reply, EndsBy, SentBy, LeftBy, ServesAt}
use Rattle.serve_core.specs.Taking.{TakesRequestAt, end_of, AnswersOne, OneAt}

pub none_good : (reply : List ℕ → List ℕ) → All (IsExchange reply) []
none_good reply = All-nil (IsExchange reply)

pub one_good : (reply : List ℕ → List ℕ) (x : Exchange) → IsExchange reply x → All (IsExchange reply) (x ∷ [])
one_good reply x good = All-cons (IsExchange reply) x [] good (none_good reply)

-- nothing was served, and nothing sent
pub ends_at_once : (reply : List ℕ → List ℕ) (most : ℕ) (e : ServeEnd) (v n : Visits) → EndsBy most e 0 v.wire.due [] → SentBy e v.wire.sent [] n.wire.sent → LeftBy e v.wire.due n.wire.due → OnlyWire v n → ServesAt reply most e v n
ends_at_once reply most e v n ends sent left others = record {
  wire = record {
    exchanges = [];
    rest = v.wire.due;
    last = [];
    input = refl;
    good = none_good reply;
    ends = ends;
    sent = sent;
    left = left;
  };
  others = others;
}

-- the input ended, or the connection was lost, before a whole request
pub taken_none : (reply : List ℕ → List ℕ) (room : List ℕ) (e : ServeEnd) (v n : Visits) → TakesRequestAt room (taken.Ended e) v n → OneAt reply (Err e) v n
taken_none reply room end.Clean v n p = λ most more. ends_at_once reply most end.Clean v n (omega arith, (p.wire, refl)) (p.sent ∙ sym (append-nil v.wire.sent)) tt p.others
taken_none reply room (end.Cut had needed) v n p = λ most more. ends_at_once reply most (end.Cut had needed) v n (omega arith, (p.wire.0, (p.wire.1, refl))) (p.sent ∙ sym (append-nil v.wire.sent)) tt p.others
taken_none reply room (end.TooLong k) v n p = absurd p.wire
taken_none reply room end.Full v n p = absurd p.wire
taken_none reply room end.Lost v n p = λ most more. ends_at_once reply most end.Lost v n (omega arith, inl refl) (0, p.sent ∙ sym (append-nil v.wire.sent)) tt p.others
taken_none reply room end.OutOfMemory v n p = absurd p.wire

-- code 8 was sent behind too long a length
pub too_long : (reply : List ℕ → List ℕ) (room : List ℕ) (k : ℕ) (u : Unit {0}) (v m n : Visits) → TakesRequestAt room (taken.TooLong k) v m → SendsFrameAt (8 ∷ []) (Ok u) m n → OneAt reply (Err (end.TooLong k)) v n
too_long reply room k u v m n p q = λ most more. record {
  wire = record {
    exchanges = [];
    rest = v.wire.due;
    last = too_long_reply;
    input = refl;
    good = none_good reply;
    ends = (omega arith, (p.wire, refl));
    sent = q.sent ∙ ap (λ (s : List ℕ). s ++ too_long_reply) p.sent;
    left = tt;
  };
  others = only_twice v m n p.others q.others;
}

-- an end that a failed send makes
pub failed_end : (reply : List ℕ → List ℕ) (most : ℕ) (why : Stop) (v n : Visits) (xs : List Exchange) (rest last : List ℕ) (k : ℕ)
    → v.wire.due ≡ requests xs ++ rest → All (IsExchange reply) xs → length xs ≤ most
    → ((last ≡ []) ⊎ ((length xs < most) × ((i : ℕ) × BeginsTooLong longest_request rest i) × (last ≡ too_long_reply)))
    → n.wire.sent ≡ v.wire.sent ++ take k (replies xs ++ last) → OnlyWire v n → ServesAt reply most (end_of why) v n
failed_end reply most stop.Failed v n xs rest last k input good many ends sent others = record {
  wire = record { exchanges = xs; rest = rest; last = last; input = input; good = good; ends = (many, ends); sent = (k, sent); left = tt };
  others = others;
}
failed_end reply most stop.OutOfMemory v n xs rest last k input good many ends sent others = record {
  wire = record { exchanges = xs; rest = rest; last = last; input = input; good = good; ends = (many, ends); sent = (k, sent); left = tt };
  others = others;
}

-- code 8 was to be sent behind too long a length
pub too_long_failed : (reply : List ℕ → List ℕ) (room : List ℕ) (k : ℕ) (why : Stop) (v m n : Visits) → TakesRequestAt room (taken.TooLong k) v m → SendsFrameAt (8 ∷ []) (Err why) m n → OneAt reply (Err (end_of why)) v n
too_long_failed reply room k why v m n p q = λ most more.
    failed_end reply most why v n [] v.wire.due too_long_reply q.sent.0 refl (none_good reply) (omega arith)
    (inr (omega arith, (k, p.wire), refl))
    (q.sent.1 ∙ ap (λ (s : List ℕ). s ++ take q.sent.0 too_long_reply) p.sent)
    (only_twice v m n p.others q.others)

-- the frame of a request that was taken
pub frame_taken : (room : List ℕ) (k : ℕ) (v m : Visits) → k ≤ length room → TakesRequestAt room (taken.Frame k) v m → v.wire.due ≡ framed (take k room) ++ m.wire.due
frame_taken room k v m within p =
    p.wire.1
    ∙ sym (append_assoc (to_be_bytes w32 k) (take k room) m.wire.due)
    ∙ ap (λ (i : ℕ). (to_be_bytes w32 i ++ take k room) ++ m.wire.due) (sym (length-take-le k room within))

-- a request was taken and its reply was sent
pub one_answered : (reply : List ℕ → List ℕ) (room : List ℕ) (k : ℕ) (u : Unit {0}) (v m n : Visits) → k ≤ length room → TakesRequestAt room (taken.Frame k) v m → RepliesAt reply (take k room) (Ok u) m n → AnswersOne reply v n
one_answered reply room k u v m n within p q = record {
  exchange = record { frame = take k room; body = q.body };
  good = record { short = omega (arith, length-take-le k room within, p.wire.0); body = q.is };
  input = frame_taken room k v m within p ∙ ap (λ (s : List ℕ). framed (take k room) ++ s) (sym q.sends.due);
  sent = q.sends.sent ∙ ap (λ (s : List ℕ). s ++ framed q.body) p.sent;
  others = only_twice v m n p.others q.sends.others;
}

-- a request was taken and its reply was to be sent
pub one_failed : (reply : List ℕ → List ℕ) (room : List ℕ) (k : ℕ) (why : Stop) (v m n : Visits) → k ≤ length room → TakesRequestAt room (taken.Frame k) v m → RepliesAt reply (take k room) (Err why) m n → OneAt reply (Err (end_of why)) v n
one_failed reply room k why v m n within p q = λ most more.
    let short : length (take k room) ≤ longest_request = omega (arith, length-take-le k room within, p.wire.0) in
    let one : Exchange = record { frame = take k room; body = q.body } in
    failed_end reply most why v n (one ∷ []) m.wire.due [] q.sends.sent.0
    (frame_taken room k v m within p ∙ ap (λ (s : List ℕ). s ++ m.wire.due) (sym (append-nil (framed (take k room)))))
    (one_good reply one (record { short = short; body = q.is }))
    (omega arith)
    (inl refl)
    (
    q.sends.sent.1
    ∙ ap (λ (s : List ℕ). s ++ take q.sends.sent.0 (framed q.body)) p.sent
    ∙ ap (λ (s : List ℕ). v.wire.sent ++ take q.sends.sent.0 s) (sym (append-nil (framed q.body ++ []) ∙ append-nil (framed q.body)))
    )
    (only_twice v m n p.others q.sends.others)

-- so many requests were answered
pub record Served (reply : List ℕ → List ℕ) (count : ℕ) (v n : Visits) : Type 0 where
  pub exchanges : List Exchange
  pub many : length exchanges ≡ count
  pub good : All (IsExchange reply) exchanges
  pub input : v.wire.due ≡ requests exchanges ++ n.wire.due
  pub sent : n.wire.sent ≡ v.wire.sent ++ replies exchanges
  pub others : OnlyWire v n

pub served_none : (reply : List ℕ → List ℕ) (v : Visits) → Served reply 0 v v
served_none reply v = record {
  exchanges = [];
  many = refl;
  good = none_good reply;
  input = refl;
  sent = sym (append-nil v.wire.sent);
  others = only_itself v;
}

-- one more
pub served_more : (reply : List ℕ → List ℕ) (k : ℕ) (v m n : Visits) → Served reply k v m → AnswersOne reply m n → Served reply (k + 1) v n
served_more reply k v m n p q =
    let xs : List Exchange = p.exchanges in
    let x : Exchange = q.exchange in
    let asked : requests (xs ++ x ∷ []) ≡ requests xs ++ framed x.frame =
    flat_map-append (λ (y : Exchange). framed y.frame) xs (x ∷ []) ∙ ap (λ (s : List ℕ). requests xs ++ s) (append-nil (framed x.frame)) in
    let told : replies (xs ++ x ∷ []) ≡ replies xs ++ framed x.body =
    flat_map-append (λ (y : Exchange). framed y.body) xs (x ∷ []) ∙ ap (λ (s : List ℕ). replies xs ++ s) (append-nil (framed x.body)) in
    record {
      exchanges = xs ++ x ∷ [];
      many = omega (arith, length-append xs (x ∷ []), p.many);
      good = All-append (IsExchange reply) xs (x ∷ []) p.good (one_good reply x q.good);
      input =
          p.input
          ∙ ap (λ (s : List ℕ). requests xs ++ s) q.input
          ∙ sym (append_assoc (requests xs) (framed x.frame) n.wire.due)
          ∙ ap (λ (s : List ℕ). s ++ n.wire.due) (sym asked);
      sent =
          q.sent
          ∙ ap (λ (s : List ℕ). s ++ framed x.body) p.sent
          ∙ append_assoc v.wire.sent (replies xs) (framed x.body)
          ∙ ap (λ (s : List ℕ). v.wire.sent ++ s) (sym told);
      others = only_twice v m n p.others q.others;
    }

-- the last one that is allowed
pub served_full : (reply : List ℕ → List ℕ) (k most : ℕ) (v n : Visits) → k ≡ most → Served reply k v n → ServesAt reply most end.Full v n
served_full reply k most v n all p = record {
  wire = record {
    exchanges = p.exchanges;
    rest = n.wire.due;
    last = [];
    input = p.input;
    good = p.good;
    ends = (omega (arith, p.many), refl);
    sent = p.sent ∙ ap (λ (s : List ℕ). v.wire.sent ++ s) (sym (append-nil (replies p.exchanges)));
    left = refl;
  };
  others = p.others;
}

-- the end of the rest of a connection is the end of the whole
pub ends_later : (most k i j : ℕ) (e : ServeEnd) (rest last : List ℕ) → k < most → i ≡ k + j → EndsBy (most - k) e j rest last → EndsBy most e i rest last
ends_later most k i j end.Clean rest last below is p = (omega (arith, p.0), p.1)
ends_later most k i j (end.Cut had needed) rest last below is p = (omega (arith, p.0), p.1)
ends_later most k i j (end.TooLong n) rest last below is p = (omega (arith, p.0), p.1)
ends_later most k i j end.Full rest last below is p = (omega (arith, p.0), p.1)
ends_later most k i j end.Lost rest last below is p = (omega (arith, p.0), elim p.1 [ inl none ↦ inl none | inr some ↦ inr (omega (arith, some.0), some.1, some.2) ])
ends_later most k i j end.OutOfMemory rest last below is p = (omega (arith, p.0), elim p.1 [ inl none ↦ inl none | inr some ↦ inr (omega (arith, some.0), some.1, some.2) ])

-- what was sent behind the first replies
pub sent_later : (e : ServeEnd) (before first all middle now : List ℕ) → middle ≡ before ++ first → SentBy e middle all now → SentBy e before (first ++ all) now
sent_later end.Clean before first all middle now is p = p ∙ ap (λ (s : List ℕ). s ++ all) is ∙ append_assoc before first all
sent_later (end.Cut had needed) before first all middle now is p = p ∙ ap (λ (s : List ℕ). s ++ all) is ∙ append_assoc before first all
sent_later (end.TooLong n) before first all middle now is p = p ∙ ap (λ (s : List ℕ). s ++ all) is ∙ append_assoc before first all
sent_later end.Full before first all middle now is p = p ∙ ap (λ (s : List ℕ). s ++ all) is ∙ append_assoc before first all
sent_later end.Lost before first all middle now is p = (
  length first + p.0,
  p.1 ∙ ap (λ (s : List ℕ). s ++ take p.0 all) is ∙ append_assoc before first (take p.0 all) ∙ ap (λ (s : List ℕ). before ++ s) (sym (take-append-add first all p.0)),
)
sent_later end.OutOfMemory before first all middle now is p = (
  length first + p.0,
  p.1 ∙ ap (λ (s : List ℕ). s ++ take p.0 all) is ∙ append_assoc before first (take p.0 all) ∙ ap (λ (s : List ℕ). before ++ s) (sym (take-append-add first all p.0)),
)

pub served_then_ended : (reply : List ℕ → List ℕ) (k most : ℕ) (e : ServeEnd) (v m n : Visits) → k < most → Served reply k v m → OneAt reply (Err e) m n → ServesAt reply most e v n
served_then_ended reply k most e v m n below p q =
    let s : ServesAt reply (most - k) e m n = q (most - k) (omega arith) in
    let xs : List Exchange = p.exchanges in
    let ys : List Exchange = s.wire.exchanges in
    let asked : requests (xs ++ ys) ≡ requests xs ++ requests ys = flat_map-append (λ (y : Exchange). framed y.frame) xs ys in
    let told : replies (xs ++ ys) ≡ replies xs ++ replies ys = flat_map-append (λ (y : Exchange). framed y.body) xs ys in
    let whole : replies xs ++ (replies ys ++ s.wire.last) ≡ replies (xs ++ ys) ++ s.wire.last =
    sym (append_assoc (replies xs) (replies ys) s.wire.last) ∙ ap (λ (t : List ℕ). t ++ s.wire.last) (sym told) in
    record {
      wire = record {
        exchanges = xs ++ ys;
        rest = s.wire.rest;
        last = s.wire.last;
        input =
            p.input
            ∙ ap (λ (t : List ℕ). requests xs ++ t) s.wire.input
            ∙ sym (append_assoc (requests xs) (requests ys) s.wire.rest)
            ∙ ap (λ (t : List ℕ). t ++ s.wire.rest) (sym asked);
        good = All-append (IsExchange reply) xs ys p.good s.wire.good;
        ends = ends_later most k (length (xs ++ ys)) (length ys) e s.wire.rest s.wire.last below (omega (arith, length-append xs ys, p.many)) s.wire.ends;
        sent = subst (λ (t : List ℕ). SentBy e v.wire.sent t n.wire.sent) whole (sent_later e v.wire.sent (replies xs) (replies ys ++ s.wire.last) m.wire.sent n.wire.sent p.sent s.wire.sent);
        left = s.wire.left;
      };
      others = only_twice v m n p.others s.others;
    }

-- there was no memory for the room
pub no_room : (reply : List ℕ → List ℕ) (most : ℕ) (v : Visits) → ServesAt reply most end.OutOfMemory v v
no_room reply most v = ends_at_once reply most end.OutOfMemory v v (omega arith, inl refl) (0, sym (append-nil v.wire.sent)) tt (only_itself v)
