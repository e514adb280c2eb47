-- A reply taken in two parts.
use Rattle.std.proofs.Common.{◌≡◌, ℕ, ◌≤◌, ◌<◌, ◌^◌, List, [], ◌++◌, length, take, Ok, Err, Vec, Global, refl, sym, ap, subst, ◌∙◌, arith, append-nil, inl, inr}
use Rattle.std.proofs.Math.Seq.{take-length}
use Rattle.std.proofs.lemmas.List.{append_assoc, take-append-drop, length-take-le, drop_all}
use Rattle.std.specs.Int.{w32, to_be_bytes}
use Rattle.spl_outside.specs.Wire.{Wire, after_taking}
use Rattle.spl_outside.specs.declared.Failed.{Failed}
use Rattle.wire_frames.specs.Framing.{longest_body}
use Rattle.wire_frames.specs.Filling.{Fills}
use Rattle.link_exchange.specs.declared.replies.Body.TheVariants as body
use Rattle.link_exchange.specs.declared.replies.LinkStop.{LinkStop}
use Rattle.link_exchange.specs.declared.replies.LinkStop.TheVariants as stop
use Rattle.link_exchange.specs.Replying.{Took, TakesBody, TakesReply}

pub took_none : (w : Wire) → Took [] w w
took_none w = record { sent = refl; got = sym (append-nil w.got); due = refl }

pub took_front : (k : ℕ) (w n : Wire) → n ≡ after_taking k w → Took (take k w.due) w n
took_front k w n e = record {
  sent = ap (λ (x : Wire). x.sent) e;
  got = ap (λ (x : Wire). x.got) e;
  due = sym (take-append-drop k w.due) ∙ ap (λ (s : List ℕ). take k w.due ++ s) (sym (ap (λ (x : Wire). x.due) e));
}

pub took_twice : (a b : List ℕ) (w m n : Wire) → Took a w m → Took b m n → Took (a ++ b) w n
took_twice a b w m n p q = record {
  sent = q.sent ∙ p.sent;
  got = q.got ∙ ap (λ (s : List ℕ). s ++ b) p.got ∙ append_assoc w.got a b;
  due = p.due ∙ ap (λ (s : List ℕ). a ++ s) q.due ∙ sym (append_assoc a b n.due);
}

-- a buffer that was filled holds what was taken
pub took_all : (buf : List ℕ) (k : ℕ) (w n : Wire) → length buf ≤ k → Fills w buf n (Ok k) → Took buf w n
took_all buf k w n whole p =
    let all : k ≡ length buf = omega (arith, p.0, whole) in
    let same : take k w.due ≡ buf = sym p.1.bytes ∙ ap (λ (i : ℕ). take i buf) all ∙ take-length buf in
    subst (λ (s : List ℕ). Took s w n) same (took_front k w n p.1.wire)

-- a buffer that wasn't filled took all that was due
pub took_rest : (buf : List ℕ) (k : ℕ) (w n : Wire) → k < length buf → Fills w buf n (Ok k) → (length (take k w.due) ≡ k) × (n.due ≡ [])
took_rest buf k w n part p = (
  length-take-le k w.due p.1.there,
  ap (λ (x : Wire). x.due) p.1.wire ∙ drop_all k w.due (omega (arith, p.0, part)),
)

pub body_unread : (needed : ℕ) (w : Wire) → TakesBody needed (Err stop.OutOfMemory) w w
body_unread needed w = record { taken = []; took = took_none w; body = tt }

pub body_lost : (needed : ℕ) (buf : List ℕ) (f : Failed) (w n : Wire) → Fills w buf n (Err f) → TakesBody needed (Err stop.Failed) w n
body_lost needed buf f w n p = record { taken = take p.0 w.due; took = took_front p.0 w n p.1; body = tt }

pub body_short : (needed : ℕ) (buf : List ℕ) (k : ℕ) (w n : Wire) → length buf ≡ needed → k < needed → Fills w buf n (Ok k) → TakesBody needed (Err (stop.Ended k needed)) w n
body_short needed buf k w n size part p =
    let rest = took_rest buf k w n (omega (arith, size, part)) p in
    record {
      taken = take k w.due;
      took = took_front k w n p.1.wire;
      body = (rest.0, (part, (refl, rest.1)));
    }

pub body_whole : (needed : ℕ) (buf : List ℕ) (k : ℕ) (v : Vec ℕ Global) (w n : Wire) → length buf ≡ needed → needed ≤ k → v.items ≡ buf → Fills w buf n (Ok k) → TakesBody needed (Ok v) w n
body_whole needed buf k v w n size whole is p = record {
  taken = buf;
  took = took_all buf k w n (omega (arith, size, whole)) p;
  body = (is, size);
}

pub length_lost : (buf : List ℕ) (f : Failed) (w n : Wire) → Fills w buf n (Err f) → TakesReply (Err stop.Failed) w n
length_lost buf f w n p = record { taken = take p.0 w.due; took = took_front p.0 w n p.1; reply = tt }

pub length_short : (buf : List ℕ) (k : ℕ) (w n : Wire) → length buf ≡ 4 → k < 4 → Fills w buf n (Ok k) → TakesReply (Err (stop.Ended k 4)) w n
length_short buf k w n four part p =
    let rest = took_rest buf k w n (omega (arith, four, part)) p in
    record {
      taken = take k w.due;
      took = took_front k w n p.1.wire;
      reply = (inl (rest.0, (part, refl)), rest.1);
    }

pub length_too_large : (buf : List ℕ) (k needed : ℕ) (w n : Wire) → length buf ≡ 4 → 4 ≤ k → to_be_bytes w32 needed ≡ buf → longest_body < needed → needed < 2 ^ 32 → Fills w buf n (Ok k) → TakesReply (Ok body.TooLarge) w n
length_too_large buf k needed w n four whole is large small p = record {
  taken = buf;
  took = took_all buf k w n (omega (arith, four, whole)) p;
  reply = (needed, sym is, (large, small));
}

-- the length was taken, and then the body
pub reply_whole : (buf : List ℕ) (k needed : ℕ) (v : Vec ℕ Global) (w m n : Wire) → length buf ≡ 4 → 4 ≤ k → to_be_bytes w32 needed ≡ buf → needed ≤ longest_body → Fills w buf m (Ok k) → TakesBody needed (Ok v) m n → TakesReply (Ok (body.Whole v)) w n
reply_whole buf k needed v w m n four whole is short p q =
    let size : length v.items ≡ needed = ap (length {A = ℕ}) q.body.0 ∙ q.body.1 in
    record {
      taken = buf ++ q.taken;
      took = took_twice buf q.taken w m n (took_all buf k w m (omega (arith, four, whole)) p) q.took;
      reply = (
        ap (λ (s : List ℕ). s ++ q.taken) (sym is ∙ ap (λ (i : ℕ). to_be_bytes w32 i) (sym size)) ∙ ap (λ (s : List ℕ). to_be_bytes w32 (length v.items) ++ s) (sym q.body.0),
        omega (arith, size, short),
      );
    }

-- the length was taken, and then a part of the body
pub reply_stopped : (buf : List ℕ) (k needed : ℕ) (e : LinkStop) (w m n : Wire) → length buf ≡ 4 → 4 ≤ k → to_be_bytes w32 needed ≡ buf → needed ≤ longest_body → Fills w buf m (Ok k) → TakesBody needed (Err e) m n → TakesReply (Err e) w n
reply_stopped buf k needed stop.Failed w m n four whole is short p q = record {
  taken = buf ++ q.taken;
  took = took_twice buf q.taken w m n (took_all buf k w m (omega (arith, four, whole)) p) q.took;
  reply = tt;
}
reply_stopped buf k needed stop.OutOfMemory w m n four whole is short p q = record {
  taken = buf ++ q.taken;
  took = took_twice buf q.taken w m n (took_all buf k w m (omega (arith, four, whole)) p) q.took;
  reply = tt;
}
reply_stopped buf k needed (stop.Ended had all) w m n four whole is short p q = record {
  taken = buf ++ q.taken;
  took = took_twice buf q.taken w m n (took_all buf k w m (omega (arith, four, whole)) p) q.took;
  reply = (
    inr (
      q.taken,
      ap (λ (s : List ℕ). s ++ q.taken) (sym is ∙ ap (λ (i : ℕ). to_be_bytes w32 i) (sym q.body.1.1.0)),
      (q.body.0, (omega (arith, q.body.1.0, q.body.1.1.0), omega (arith, q.body.1.1.0, short))),
    ),
    q.body.1.1.1,
  );
}
