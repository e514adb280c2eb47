-- Frames at the front of an input.
use Rattle.std.proofs.Common.{◌≡◌, ◌⊎◌, ℕ, ◌+◌, ◌≤◌, ◌<◌, ◌^◌, List, [], ◌∷◌, ◌++◌, length, refl, sym, ap, ◌∙◌, arith, length-append, inl, inr}
use Rattle.std.proofs.lemmas.List.{append_assoc}
use Rattle.std.proofs.lemmas.List.Elements.{All-head, All-tail}
use Rattle.std.proofs.lemmas.Nat.{from_be_bytes-to_be_bytes_4}
use Rattle.std.specs.Int.{w32, from_be_bytes, to_be_bytes}
use Rattle.wire_frames.specs.Framing.{framed, all_framed}
use Rattle.wire_frames.specs.Laws as law

-- two appends of fronts of one length are the same in both parts
pub same_split : (a b x y : List ℕ) → length a ≡ length b → a ++ x ≡ b ++ y → (a ≡ b) × (x ≡ y)
same_split [] [] x y len e = (refl, e)
same_split [] (c ∷ b) x y len e = absurd (omega (arith, len))
same_split (c ∷ a) [] x y len e = absurd (omega (arith, len))
same_split (c ∷ a) (d ∷ b) x y len e =
    let head : c ≡ d = cc in
    let tail : a ++ x ≡ b ++ y = cc in
    let rest = same_split a b x y (omega (arith, len)) tail in
    let same : a ≡ b = rest.0 in
    (cc, rest.1)

-- the lengths at the front are the same
pub same_length : (m n : ℕ) (x y : List ℕ) → m < 2 ^ 32 → n < 2 ^ 32 → to_be_bytes w32 m ++ x ≡ to_be_bytes w32 n ++ y → (m ≡ n) × (x ≡ y)
same_length m n x y small smaller e =
    let parts = same_split (to_be_bytes w32 m) (to_be_bytes w32 n) x y refl e in (
      sym (from_be_bytes-to_be_bytes_4 m small) ∙ ap (from_be_bytes w32) parts.0 ∙ from_be_bytes-to_be_bytes_4 n smaller,
      parts.1,
    )

-- a frame and what follows, its length apart
pub length_apart : (frame more : List ℕ) → framed frame ++ more ≡ to_be_bytes w32 (length frame) ++ (frame ++ more)
length_apart frame more = append_assoc (to_be_bytes w32 (length frame)) frame more

-- the frames at the front are the same
pub same_frame : (longest : ℕ) (f g x y : List ℕ) → longest < 2 ^ 32 → length f ≤ longest → length g ≤ longest → framed f ++ x ≡ framed g ++ y → (f ≡ g) × (x ≡ y)
same_frame longest f g x y wide short shorter e =
    let parts = same_length (length f) (length g) (f ++ x) (g ++ y) (omega (arith, wide, short)) (omega (arith, wide, shorter)) (sym (length_apart f x) ∙ e ∙ length_apart g y) in
    same_split f g x y parts.0 parts.1

pub four_more : (n : ℕ) (x : List ℕ) → length (to_be_bytes w32 n ++ x) ≡ 4 + length x
four_more n x = length-append (to_be_bytes w32 n) x

pub none_does_not_go_on : law.NoneDoesNotGoOn
none_does_not_go_on longest input none (frame, more, short, is) =
    absurd (omega (arith, none, ap (length {A = ℕ}) (is ∙ length_apart frame more), four_more (length frame) (frame ++ more)))

pub part_does_not_go_on : law.PartDoesNotGoOn
part_does_not_go_on longest had needed input wide (inl p) (frame, more, short, is) =
    absurd (omega (arith, p.0, p.1.0, ap (length {A = ℕ}) (is ∙ length_apart frame more), four_more (length frame) (frame ++ more)))
part_does_not_go_on longest had needed input wide (inr (part, is, p)) (frame, more, short, goes) =
    let parts = same_length needed (length frame) part (frame ++ more) (omega (arith, wide, p.1.1)) (omega (arith, wide, short)) (sym is ∙ goes ∙ length_apart frame more) in
    absurd (omega (arith, p.0, p.1.0, parts.0, ap (length {A = ℕ}) parts.1, length-append frame more))

pub too_long_does_not_go_on : law.TooLongDoesNotGoOn
too_long_does_not_go_on longest n input wide (rest, is, p) (frame, more, short, goes) =
    let parts = same_length n (length frame) rest (frame ++ more) p.1 (omega (arith, wide, short)) (sym is ∙ goes ∙ length_apart frame more) in
    absurd (omega (arith, p.0, parts.0, short))

pub too_long_is_no_part : law.TooLongIsNoPart
too_long_is_no_part longest n had needed input wide (rest, is, p) (inl q) =
    absurd (omega (arith, q.0, q.1.0, ap (length {A = ℕ}) is, four_more n rest))
too_long_is_no_part longest n had needed input wide (rest, is, p) (inr (part, goes, q)) =
    let parts = same_length n needed rest part p.1 (omega (arith, wide, q.1.1)) (sym is ∙ goes) in
    absurd (omega (arith, p.0, parts.0, q.1.1))

pub part_is_one : law.PartIsOne
part_is_one longest had needed had_too needed_too input wide (inl p) (inl q) = (omega (arith, p.0, q.0), omega (arith, p.1.1, q.1.1))
part_is_one longest had needed had_too needed_too input wide (inl p) (inr (part, is, q)) = absurd (omega (arith, p.0, p.1.0, ap (length {A = ℕ}) is, four_more needed_too part))
part_is_one longest had needed had_too needed_too input wide (inr (part, is, p)) (inl q) = absurd (omega (arith, q.0, q.1.0, ap (length {A = ℕ}) is, four_more needed part))
part_is_one longest had needed had_too needed_too input wide (inr (part, is, p)) (inr (part_too, goes, q)) =
    let parts = same_length needed needed_too part part_too (omega (arith, wide, p.1.1)) (omega (arith, wide, q.1.1)) (sym is ∙ goes) in
    (omega (arith, p.0, q.0, ap (length {A = ℕ}) parts.1), parts.0)

pub too_long_is_one : law.TooLongIsOne
too_long_is_one longest n n_too input (rest, is, p) (rest_too, goes, q) = (same_length n n_too rest rest_too p.1 q.1 (sym is ∙ goes)).0

pub frames_are_read_once : law.FramesAreReadOnce
frames_are_read_once longest [] [] r s wide short shorter e = inl (refl, e)
frames_are_read_once longest [] (y ∷ ys) r s wide short shorter e =
    inr (inl (omega arith, (y, all_framed ys ++ s, All-head (λ frame. length frame ≤ longest) y ys shorter, e ∙ append_assoc (framed y) (all_framed ys) s)))
frames_are_read_once longest (x ∷ xs) [] r s wide short shorter e =
    inr (inr (omega arith, (x, all_framed xs ++ r, All-head (λ frame. length frame ≤ longest) x xs short, sym e ∙ append_assoc (framed x) (all_framed xs) r)))
frames_are_read_once longest (x ∷ xs) (y ∷ ys) r s wide short shorter e =
    let P : List ℕ → Type 0 = λ frame. length frame ≤ longest in
    let parts = same_frame longest x y (all_framed xs ++ r) (all_framed ys ++ s) wide (All-head P x xs short) (All-head P y ys shorter) (sym (append_assoc (framed x) (all_framed xs) r) ∙ e ∙ append_assoc (framed y) (all_framed ys) s) in
    one_more x y xs ys r s longest parts.0 (frames_are_read_once longest xs ys r s wide (All-tail P x xs short) (All-tail P y ys shorter) parts.1)
  where
    one_more : (x y : List ℕ) (xs ys : List (List ℕ)) (r s : List ℕ) (longest : ℕ) → x ≡ y
        → ((xs ≡ ys) × (r ≡ s)) ⊎ (((length xs < length ys) × law.GoesOn longest r) ⊎ ((length ys < length xs) × law.GoesOn longest s))
        → ((x ∷ xs ≡ y ∷ ys) × (r ≡ s)) ⊎ (((length (x ∷ xs) < length (y ∷ ys)) × law.GoesOn longest r) ⊎ ((length (y ∷ ys) < length (x ∷ xs)) × law.GoesOn longest s))
    one_more x y xs ys r s longest same (inl p) = inl (ap (λ (z : List ℕ). z ∷ xs) same ∙ ap (λ (zs : List (List ℕ)). y ∷ zs) p.0, p.1)
    one_more x y xs ys r s longest same (inr (inl p)) = inr (inl (omega (arith, p.0), p.1))
    one_more x y xs ys r s longest same (inr (inr p)) = inr (inr (omega (arith, p.0), p.1))
