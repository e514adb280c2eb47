-- One receive more.
use Rattle.std.proofs.Common.{◌≡◌, ℕ, ◌+◌, ◌≤◌, List, [], ◌++◌, length, take, drop, Ok, sym, ap, subst, ◌∙◌, arith, length-append}
use Rattle.std.proofs.Math.Seq.{take-add, take-append-add}
use Rattle.std.proofs.lemmas.List.{drop-drop, length-drop, append_assoc, length-take-le, take-append-le}
use Rattle.spl_outside.specs.Wire.{Wire, Visits, OnlyWire, TakesIn, Receives, after_taking}
use Rattle.wire_frames.specs.Filling.{Filled, Fills, FillsAt}
use Rattle.wire_frames.proofs.Telling.{only_twice}
use borrow.Rule.Slice.PartMut.{put_mid, post_of}

-- the first k bytes due were taken to the front of the buffer, at a door
pub record FilledAt (buf : List ℕ) (k : ℕ) (v n : Visits) : Type 0 where
  pub wire : Filled v.wire buf k n.wire
  pub others : OnlyWire v n

pub taking_twice : (w : Wire) (f k : ℕ) → after_taking k (after_taking f w) ≡ after_taking (f + k) w
taking_twice w f k =
    let got : (w.got ++ take f w.due) ++ take k (drop f w.due) ≡ w.got ++ take (f + k) w.due =
    append_assoc w.got (take f w.due) (take k (drop f w.due)) ∙ ap (λ (t : List ℕ). w.got ++ t) (sym (take-add f k w.due)) in
    let due : drop k (drop f w.due) ≡ drop (f + k) w.due = drop-drop k f w.due in
    cc

-- the front of a buffer whose end was written to
pub front_more : (buf sub : List ℕ) (f k r : ℕ) → f ≤ length buf → k ≤ length sub → take (f + k) (put_mid f r buf sub) ≡ take f buf ++ take k sub
front_more buf sub f k r within room =
    let front : length (take f buf) ≡ f = length-take-le f buf within in
    ap (λ (i : ℕ). take (i + k) (put_mid f r buf sub)) (sym front)
    ∙ take-append-add (take f buf) (sub ++ post_of f r buf) k
    ∙ ap (λ (t : List ℕ). take f buf ++ t) (take-append-le k sub (post_of f r buf) room)

pub room_there : (buf sub : List ℕ) (f k r : ℕ) → f ≤ length buf → k ≤ length sub → f + k ≤ length (put_mid f r buf sub)
room_there buf sub f k r within room =
    omega (
      arith,
      length-append (take f buf) (sub ++ post_of f r buf),
      length-append sub (post_of f r buf),
      length-take-le f buf within,
    )

pub filled_more : (w m n : Wire) (buf sub : List ℕ) (f k r : ℕ) → f ≤ length buf → k ≤ length sub → Filled w buf f m → Receives m sub n (Ok k) → Filled w (put_mid f r buf sub) (f + k) n
filled_more w m n buf sub f k r within room p q =
    let left : m.due ≡ drop f w.due = ap (λ (x : Wire). x.due) p.wire in
    let here : k ≤ length m.due = q.1.1.0 in
    record {
      there = omega (arith, ap (length {A = ℕ}) left, length-drop f w.due, p.there);
      wire = q.0 ∙ ap (λ (x : Wire). after_taking k x) p.wire ∙ taking_twice w f k;
      bytes =
          front_more buf sub f k r within room
          ∙ ap (λ (t : List ℕ). t ++ take k sub) p.bytes
          ∙ ap (λ (t : List ℕ). take f w.due ++ t) (q.1.0 ∙ ap (λ (t : List ℕ). take k t) left)
          ∙ sym (take-add f k w.due);
    }

pub fill_ends : (w m n : Wire) (buf sub : List ℕ) (f k r : ℕ) → f ≤ length buf → k ≡ 0 → Filled w buf f m → Receives m sub n (Ok k) → Fills w (put_mid f r buf sub) n (Ok f)
fill_ends w m n buf sub f k r within none p q =
    let all : Filled w (put_mid f r buf sub) (f + k) n = filled_more w m n buf sub f k r within (omega arith) p q in
    let same : f + k ≡ f = omega arith in
    let filled : Filled w (put_mid f r buf sub) f n = subst (λ (i : ℕ). Filled w (put_mid f r buf sub) i n) same all in
    let left : m.due ≡ drop f w.due = ap (λ (x : Wire). x.due) p.wire in
    let empty : m.due ≡ [] = q.1.1.1.0 none in (
      omega (
        arith,
        ap (length {A = ℕ}) left,
        ap (length {A = ℕ}) empty,
        length-drop f w.due,
        p.there,
        length-append (take f buf) (sub ++ post_of f r buf),
        length-take-le f buf within,
      ),
      filled,
    )

pub filled_more_at : (v m n : Visits) (buf sub : List ℕ) (f k r : ℕ) → f ≤ length buf → k ≤ length sub → FilledAt buf f v m → TakesIn m sub n (Ok k) → FilledAt (put_mid f r buf sub) (f + k) v n
filled_more_at v m n buf sub f k r within room p q = record {
  wire = filled_more v.wire m.wire n.wire buf sub f k r within room p.wire q.wire;
  others = only_twice v m n p.others q.others;
}

pub fill_ends_at : (v m n : Visits) (buf sub : List ℕ) (f k r : ℕ) → f ≤ length buf → k ≡ 0 → FilledAt buf f v m → TakesIn m sub n (Ok k) → FillsAt (put_mid f r buf sub) (Ok f) v n
fill_ends_at v m n buf sub f k r within none p q = record {
  wire = fill_ends v.wire m.wire n.wire buf sub f k r within none p.wire q.wire;
  others = only_twice v m n p.others q.others;
}
