-- An input has one end.
use Rattle.std.proofs.Common.{◌≡◌, ◌⊎◌, ℕ, ◌≤◌, ◌<◌, ◌^◌, List, [], ◌∷◌, ◌++◌, length, All, refl, sym, ap, subst, ◌∙◌, arith, inl, inr}
use Rattle.std.proofs.lemmas.List.{length-map}
use Rattle.std.proofs.lemmas.List.Elements.{All-head, All-tail, All-cons, All-nil}
use Rattle.wire_frames.specs.Framing.{framed, all_framed, longest_request, BeginsTooLong}
use Rattle.wire_frames.specs.Laws.{AreShort, GoesOn}
use Rattle.wire_frames.proofs.Splits.{four_more, frames_are_read_once, none_does_not_go_on, part_does_not_go_on, too_long_does_not_go_on, too_long_is_no_part, part_is_one, too_long_is_one}
use Rattle.serve_core.specs.Serving.{Exchange, IsExchange, requests, EndsBy}
use Rattle.serve_core.specs.Laws.{IsWhole, frames}
use Rattle.serve_core.specs.Laws as law
use Rattle.serve_core.specs.declared.end.ServeEnd.{ServeEnd}
use Rattle.serve_core.specs.declared.end.ServeEnd.TheVariants as end

pub wide : longest_request < 2 ^ 32
wide = omega arith

pub are_framed : (xs : List Exchange) → requests xs ≡ all_framed (frames xs)
are_framed [] = refl
are_framed (x ∷ xs) = ap (λ (t : List ℕ). framed x.frame ++ t) (are_framed xs)

pub are_short : (reply : List ℕ → List ℕ) (xs : List Exchange) → All (IsExchange reply) xs → AreShort longest_request (frames xs)
are_short reply [] good = All-nil (λ frame. length frame ≤ longest_request)
are_short reply (x ∷ xs) good =
    All-cons (λ frame. length frame ≤ longest_request) x.frame (frames xs) (All-head (IsExchange reply) x xs good).short (are_short reply xs (All-tail (IsExchange reply) x xs good))

-- no more were served than are allowed
pub served_within : (most : ℕ) (e : ServeEnd) (served : ℕ) (rest last : List ℕ) → EndsBy most e served rest last → served ≤ most
served_within most end.Clean served rest last p = omega (arith, p.0)
served_within most (end.Cut had needed) served rest last p = omega (arith, p.0)
served_within most (end.TooLong n) served rest last p = omega (arith, p.0)
served_within most end.Full served rest last p = omega (arith, p.0)
served_within most end.Lost served rest last p = p.0
served_within most end.OutOfMemory served rest last p = p.0

-- a whole end before the last request that is allowed stands where no frame goes on
pub ends_here : (most : ℕ) (e : ServeEnd) (served : ℕ) (rest last : List ℕ) → IsWhole e → EndsBy most e served rest last → served < most → GoesOn longest_request rest → ⊥
ends_here most end.Clean served rest last whole p below goes = none_does_not_go_on longest_request rest p.1.0 goes
ends_here most (end.Cut had needed) served rest last whole p below goes = part_does_not_go_on longest_request had needed rest wide p.1.1.0 goes
ends_here most (end.TooLong n) served rest last whole p below goes = too_long_does_not_go_on longest_request n rest wide p.1.0 goes
ends_here most end.Full served rest last whole p below goes = absurd (omega (arith, p.0, below))
ends_here most end.Lost served rest last whole p below goes = absurd whole
ends_here most end.OutOfMemory served rest last whole p below goes = absurd whole

-- too long a length has bytes
pub too_long_is_some : (n : ℕ) (rest : List ℕ) → length rest ≡ 0 → BeginsTooLong longest_request rest n → ⊥
too_long_is_some n rest none p = absurd (omega (arith, none, ap (length {A = ℕ}) p.1, four_more n p.0))

-- two whole ends at one place are one
pub one_end : (most : ℕ) (e d : ServeEnd) (served : ℕ) (rest a b : List ℕ) → IsWhole e → IsWhole d → EndsBy most e served rest a → EndsBy most d served rest b → e ≡ d
one_end most end.Lost d served rest a b w z p q = absurd w
one_end most end.OutOfMemory d served rest a b w z p q = absurd w
one_end most e end.Lost served rest a b w z p q = absurd z
one_end most e end.OutOfMemory served rest a b w z p q = absurd z
one_end most end.Full end.Full served rest a b w z p q = refl
one_end most end.Full end.Clean served rest a b w z p q = absurd (omega (arith, p.0, q.0))
one_end most end.Full (end.Cut had needed) served rest a b w z p q = absurd (omega (arith, p.0, q.0))
one_end most end.Full (end.TooLong n) served rest a b w z p q = absurd (omega (arith, p.0, q.0))
one_end most end.Clean end.Full served rest a b w z p q = absurd (omega (arith, p.0, q.0))
one_end most (end.Cut had needed) end.Full served rest a b w z p q = absurd (omega (arith, p.0, q.0))
one_end most (end.TooLong n) end.Full served rest a b w z p q = absurd (omega (arith, p.0, q.0))
one_end most end.Clean end.Clean served rest a b w z p q = refl
one_end most end.Clean (end.Cut had needed) served rest a b w z p q = absurd (omega (arith, p.1.0, q.1.0))
one_end most end.Clean (end.TooLong n) served rest a b w z p q = absurd (too_long_is_some n rest p.1.0 q.1.0)
one_end most (end.Cut had needed) end.Clean served rest a b w z p q = absurd (omega (arith, p.1.0, q.1.0))
one_end most (end.Cut had needed) (end.Cut had_too needed_too) served rest a b w z p q =
    let same = part_is_one longest_request had needed had_too needed_too rest wide p.1.1.0 q.1.1.0 in
    ap (λ (i : ℕ). end.Cut i needed) same.0 ∙ ap (λ (i : ℕ). end.Cut had_too i) same.1
one_end most (end.Cut had needed) (end.TooLong n) served rest a b w z p q = absurd (too_long_is_no_part longest_request n had needed rest wide q.1.0 p.1.1.0)
one_end most (end.TooLong n) end.Clean served rest a b w z p q = absurd (too_long_is_some n rest q.1.0 p.1.0)
one_end most (end.TooLong n) (end.Cut had needed) served rest a b w z p q = absurd (too_long_is_no_part longest_request n had needed rest wide p.1.0 q.1.1.0)
one_end most (end.TooLong n) (end.TooLong n_too) served rest a b w z p q = ap (λ (i : ℕ). end.TooLong i) (too_long_is_one longest_request n n_too rest p.1.0 q.1.0)

pub connections_end_once : law.ConnectionsEndOnce
connections_end_once reply most w n m e d a b whole too =
    let read : all_framed (frames a.exchanges) ++ a.rest ≡ all_framed (frames b.exchanges) ++ b.rest =
    ap (λ (t : List ℕ). t ++ a.rest) (sym (are_framed a.exchanges)) ∙ sym a.input ∙ b.input ∙ ap (λ (t : List ℕ). t ++ b.rest) (are_framed b.exchanges) in
    decide most e d a.exchanges b.exchanges a.rest b.rest a.last b.last whole too a.ends b.ends
    (frames_are_read_once longest_request (frames a.exchanges) (frames b.exchanges) a.rest b.rest wide (are_short reply a.exchanges a.good) (are_short reply b.exchanges b.good) read)
  where
    count : (xs : List Exchange) → length (frames xs) ≡ length xs
    count xs = length-map {A = Exchange} {B = List ℕ} xs (λ x. x.frame)

    decide : (most : ℕ) (e d : ServeEnd) (xs ys : List Exchange) (r s k l : List ℕ) → IsWhole e → IsWhole d → EndsBy most e (length xs) r k → EndsBy most d (length ys) s l
        → ((frames xs ≡ frames ys) × (r ≡ s)) ⊎ (((length (frames xs) < length (frames ys)) × GoesOn longest_request r) ⊎ ((length (frames ys) < length (frames xs)) × GoesOn longest_request s))
        → (e ≡ d) × (frames xs ≡ frames ys)
    decide most e d xs ys r s k l whole too p q (inl same) =
        let many : length ys ≡ length xs = sym (count ys) ∙ ap (λ (t : List (List ℕ)). length t) (sym same.0) ∙ count xs in
        let moved : EndsBy most d (length xs) r l = subst (λ (t : List ℕ). EndsBy most d (length xs) t l) (sym same.1) (subst (λ (i : ℕ). EndsBy most d i s l) many q) in
        (one_end most e d (length xs) r k l whole too p moved, same.0)
    decide most e d xs ys r s k l whole too p q (inr (inl on)) =
        absurd (ends_here most e (length xs) r k whole p (omega (arith, on.0, count xs, count ys, served_within most d (length ys) s l q)) on.1)
    decide most e d xs ys r s k l whole too p q (inr (inr on)) =
        absurd (ends_here most d (length ys) s l too q (omega (arith, on.0, count xs, count ys, served_within most e (length xs) r k p)) on.1)
