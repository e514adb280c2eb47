-- A body sent in one call or in two.
use Rattle.std.proofs.Common.{◌≡◌, ℕ, ◌+◌, List, [], ◌∷◌, ◌++◌, length, take, Result, Ok, Err, sym, ap, ◌∙◌, arith, append-nil, inl, inr, add-one}
use Rattle.std.proofs.Math.Seq.{take-append_seam, take-append-add}
use Rattle.std.proofs.lemmas.Bool.{cases_lt}
use Rattle.std.proofs.lemmas.List.{append_assoc, take-append-le, take_all}
use Rattle.std.specs.Int.{w32, to_be_bytes}
use Rattle.spl_outside.specs.Wire.{Wire, Visits, Sends, SendsOut}
use Rattle.spl_outside.specs.declared.Stop.{Stop}
use Rattle.wire_frames.specs.Framing.{framed}
use Rattle.wire_frames.specs.Sending.{SendsFrame, SendsFrameAt}
use Rattle.wire_frames.proofs.Telling.{only_twice}

-- what stands before the rest of a body
abbrev pub head : List ℕ → ℕ → List ℕ
head rest first = to_be_bytes w32 (length rest + 1) ++ first ∷ []

pub head_and_rest : (rest : List ℕ) (first : ℕ) → head rest first ++ rest ≡ framed (first ∷ rest)
head_and_rest rest first = ap (λ (n : ℕ). to_be_bytes w32 n ++ first ∷ rest) (add-one (length rest))

-- a front of a front is a front
pub front_of_front : (k : ℕ) (xs ys : List ℕ) → (j : ℕ) × (take j (xs ++ ys) ≡ take k xs)
front_of_front k xs ys =
    elim (cases_lt (length xs) k) [
      | inl more ↦ (length xs, take-append_seam xs ys ∙ sym (take_all k xs (omega arith)))
      | inr less ↦ (k, take-append-le k xs ys less)
    ]

-- the head failed
pub head_failed : (rest bytes : List ℕ) (first : ℕ) (stop : Stop) (v n : Visits) → bytes ≡ head rest first → SendsOut v bytes n (Err stop) → SendsFrameAt (first ∷ rest) (Err stop) v n
head_failed rest bytes first stop v n is p =
    let front = front_of_front p.sent.0 (head rest first) rest in
    record {
      sent = (
        front.0,
        p.sent.1 ∙ ap (λ (t : List ℕ). v.wire.sent ++ t) (ap (λ (t : List ℕ). take p.sent.0 t) is ∙ sym front.1 ∙ ap (λ (t : List ℕ). take front.0 t) (head_and_rest rest first)),
      );
      got = p.got;
      due = p.due;
      others = p.others;
    }

-- there was no rest
pub head_alone : (rest bytes : List ℕ) (first : ℕ) (u : Unit {0}) (v n : Visits) → bytes ≡ head rest first → rest ≡ [] → SendsOut v bytes n (Ok u) → SendsFrameAt (first ∷ rest) (Ok u) v n
head_alone rest bytes first u v n is none p = record {
  sent = p.sent ∙ ap (λ (t : List ℕ). v.wire.sent ++ t) (is ∙ sym (append-nil (head rest first)) ∙ ap (λ (t : List ℕ). head rest first ++ t) (sym none) ∙ head_and_rest rest first);
  got = p.got;
  due = p.due;
  others = p.others;
}

-- the rest was sent, or failed
pub head_then_rest : (rest bytes : List ℕ) (first : ℕ) (u : Unit {0}) (r : Result (Unit {0}) Stop) (v m n : Visits) → bytes ≡ head rest first → SendsOut v bytes m (Ok u) → SendsOut m rest n r → SendsFrameAt (first ∷ rest) r v n
head_then_rest rest bytes first u (Ok t) v m n is p q = record {
  sent =
      q.sent
      ∙ ap (λ (s : List ℕ). s ++ rest) (p.sent ∙ ap (λ (s : List ℕ). v.wire.sent ++ s) is)
      ∙ append_assoc v.wire.sent (head rest first) rest
      ∙ ap (λ (s : List ℕ). v.wire.sent ++ s) (head_and_rest rest first);
  got = q.got ∙ p.got;
  due = q.due ∙ p.due;
  others = only_twice v m n p.others q.others;
}
head_then_rest rest bytes first u (Err e) v m n is p q = record {
  sent = (
    length (head rest first) + q.sent.0,
    q.sent.1
        ∙ ap (λ (s : List ℕ). s ++ take q.sent.0 rest) (p.sent ∙ ap (λ (s : List ℕ). v.wire.sent ++ s) is)
        ∙ append_assoc v.wire.sent (head rest first) (take q.sent.0 rest)
        ∙ ap (λ (s : List ℕ). v.wire.sent ++ s) (sym (take-append-add (head rest first) rest q.sent.0) ∙ ap (λ (t : List ℕ). take (length (head rest first) + q.sent.0) t) (head_and_rest rest first)),
  );
  got = q.got ∙ p.got;
  due = q.due ∙ p.due;
  others = only_twice v m n p.others q.others;
}

-- the length failed
pub length_failed : (frame bytes : List ℕ) (stop : Stop) (w n : Wire) → bytes ≡ to_be_bytes w32 (length frame) → Sends w bytes n (Err stop) → SendsFrame frame (Err stop) w n
length_failed frame bytes stop w n is p =
    let front = front_of_front p.sent.0 bytes frame in
    record {
      sent = (front.0, p.sent.1 ∙ ap (λ (t : List ℕ). w.sent ++ t) (sym front.1 ∙ ap (λ (t : List ℕ). take front.0 (t ++ frame)) is));
      got = p.got;
      due = p.due;
    }

-- the length was sent, and then the frame or a part of it
pub frame_after : (frame bytes : List ℕ) (u : Unit {0}) (r : Result (Unit {0}) Stop) (w m n : Wire) → bytes ≡ to_be_bytes w32 (length frame) → Sends w bytes m (Ok u) → Sends m frame n r → SendsFrame frame r w n
frame_after frame bytes u (Ok t) w m n is p q = record {
  sent = q.sent ∙ ap (λ (s : List ℕ). s ++ frame) (p.sent ∙ ap (λ (s : List ℕ). w.sent ++ s) is) ∙ append_assoc w.sent (to_be_bytes w32 (length frame)) frame;
  got = q.got ∙ p.got;
  due = (p.due.0 ++ q.due.0, q.due.1 ∙ ap (λ (s : List ℕ). s ++ q.due.0) p.due.1 ∙ append_assoc w.due p.due.0 q.due.0);
}
frame_after frame bytes u (Err e) w m n is p q = record {
  sent = (
    length bytes + q.sent.0,
    q.sent.1
        ∙ ap (λ (s : List ℕ). s ++ take q.sent.0 frame) p.sent
        ∙ append_assoc w.sent bytes (take q.sent.0 frame)
        ∙ ap (λ (s : List ℕ). w.sent ++ s) (sym (take-append-add bytes frame q.sent.0) ∙ ap (λ (t : List ℕ). take (length bytes + q.sent.0) (t ++ frame)) is),
  );
  got = q.got ∙ p.got;
  due = (p.due.0 ++ q.due.0, q.due.1 ∙ ap (λ (s : List ℕ). s ++ q.due.0) p.due.1 ∙ append_assoc w.due p.due.0 q.due.0);
}
