-- Laws of codes.
use Rattle.std.proofs.Common.{◌≡◌, ℕ, zero, suc, ◌+◌, ◌-◌, ◌*◌, ◌/◌, ◌%◌, ◌^◌, ◌<◌, ◌≤◌, List, [], ◌∷◌, length, refl, sym, ap, ◌∙◌, arith, IsTrue, ◌⊎◌, inl, inr, add-zero}
use Rattle.std.specs.Cmp.Lexicographic.{slice_cmp}
use Rattle.std.specs.Ordering.{nat_cmp, ordering_then}
use Rattle.std.specs.declared.cmp.Ordering.{Ordering}
use Rattle.std.specs.declared.cmp.Ordering.TheVariants as ordering
use Rattle.std.proofs.Math.Nat.{mul-le-mul_right, add-mul}
use Rattle.std.proofs.lemmas.Nat.{div-mul-add, div-add-mod', mod_below}
use Rattle.std.proofs.lemmas.Bool.Decides.{nat_tests}
use Rattle.std.specs.List.{list_all}
use Rattle.spl_values.specs.Kinds.{is_kind, bits_of, label_bits, padded, unpadded, text_of, is_printable, IsText, Fits}
use Rattle.spl_values.specs.Codes.{code_of, value_with, IsBefore}
use Rattle.spl_values.specs.declared.kinds.ColumnType.{ColumnType}
use Rattle.spl_values.specs.declared.kinds.ColumnType.TheVariants.{Uint, Text, Enum}
use Rattle.spl_values.specs.declared.values.Value.{Value}
use Rattle.spl_values.specs.declared.values.Value.TheVariants as value
use Rattle.spl_values.proofs.Powers.{bytes_bits, bytes_pos, digit_lt}
use Rattle.spl_values.proofs.Padded.{padded-nil, padded-cons, padded-lt, padded-unpadded, padded-more, unpadded-cons, first_printable, rest_printable}

-- a column of texts has 1 to 16 bytes
pub text_bytes : (k : ℕ) → IsTrue (is_kind (Text k)) → (1 ≤ k) × (k ≤ 16)
text_bytes k h = grind (arith, nat_tests)

-- a column of numbers has 1 to 64 bits
pub number_bits : (b : ℕ) → IsTrue (is_kind (Uint b)) → (1 ≤ b) × (b ≤ 64)
number_bits b h = grind (arith, nat_tests)

-- the text of a number is that of its code in fewer bytes, with zeros behind
pub kept_of_code : (k n : ℕ) → k ≤ 16 → n < 256 ^ 16 → length (text_of n) ≤ k → n ≡ padded k (text_of n) * 256 ^ (16 - k)
kept_of_code k n few low short =
    let e : k + (16 - k) ≡ 16 = omega arith in
    let whole : padded (k + (16 - k)) (text_of n) ≡ n = ap (λ m. padded m (text_of n)) e ∙ padded-unpadded 16 n low in
    sym whole ∙ padded-more k (16 - k) (text_of n) short

-- a number whose text is printable has no more than 16 bytes
printable-lt : (k n : ℕ) → IsTrue (list_all is_printable (unpadded (suc k) n)) → n < 256 ^ suc k
printable-lt k n h = elim (cases n) [ inl e ↦ rw e (bytes_pos (suc k)) | inr pos ↦ by_first k n h pos ]
  where
    cases : (m : ℕ) → (m ≡ 0) ⊎ (0 < m)
    cases zero = inl refl
    cases (suc m) = inr (omega arith)

    by_first : (k n : ℕ) → IsTrue (list_all is_printable (unpadded (suc k) n)) → 0 < n → n < 256 ^ suc k
    by_first k n h pos =
        let first = first_printable (n / 256 ^ k) (unpadded k (n % 256 ^ k)) (rw (unpadded-cons k n pos) at h) in
        let low = mod_below n (256 ^ k) (bytes_pos k) in
        let whole : n / 256 ^ k * 256 ^ k + n % 256 ^ k ≡ n = div-add-mod' n (256 ^ k) in
        rw (← whole) (digit_lt (n / 256 ^ k) (n % 256 ^ k) k (omega (arith, first)) low)

pub text-lt : (k n : ℕ) → IsText k (text_of n) → n < 256 ^ 16
text-lt k n h = printable-lt 15 n h.0

-- a value is the one with its code
pub value-with : (kind : ColumnType) (v : Value) → IsTrue (is_kind kind) → Fits kind v → v ≡ value_with kind (code_of kind v)
value-with (Uint b) (value.Number n) typed h = refl
value-with (Uint b) (value.Text n) typed h = absurd h
value-with (Uint b) (value.Label n) typed h = absurd h
value-with (Text k) (value.Number n) typed h = absurd h
value-with (Text k) (value.Text n) typed h = ap value.Text (kept_of_code k n (text_bytes k typed).1 (text-lt k n h) h.1)
value-with (Text k) (value.Label n) typed h = absurd h
value-with (Enum labels) (value.Number n) typed h = absurd h
value-with (Enum labels) (value.Text n) typed h = absurd h
value-with (Enum labels) (value.Label n) typed h = refl

-- the value with a code has it, if it is a value of the column
pub code-with : (kind : ColumnType) (n : ℕ) → IsTrue (is_kind kind) → Fits kind (value_with kind n) → code_of kind (value_with kind n) ≡ n
code-with (Uint b) n typed h = refl
code-with (Text k) n typed h =
    let few : k ≤ 16 = (text_bytes k typed).1 in
    let kept = kept_of_code k (n * 256 ^ (16 - k)) few (text-lt k (n * 256 ^ (16 - k)) h) h.1 in
    same_left (padded k (text_of (n * 256 ^ (16 - k)))) n (256 ^ (16 - k)) (bytes_pos (16 - k)) (sym kept)
  where
    same_left : (a b u : ℕ) → 0 < u → a * u ≡ b * u → a ≡ b
    same_left a b u pos e =
        let left = div-mul-add a u 0 pos in
        let right = div-mul-add b u 0 pos in
        sym left ∙ ap (λ x. (x + 0) / u) e ∙ right
code-with (Enum labels) n typed h = refl

pub codes_differ : (kind : ColumnType) (a b : Value) → IsTrue (is_kind kind) → Fits kind a → Fits kind b → code_of kind a ≡ code_of kind b → a ≡ b
codes_differ kind a b typed f g e = value-with kind a typed f ∙ ap (value_with kind) e ∙ sym (value-with kind b typed g)

label-lt : (n i : ℕ) → n ≤ 64 → i < n → i < 2 ^ label_bits n
label-lt n i few h = grind (arith, nat_tests)

enum_few : (labels : List (List ℕ)) → IsTrue (is_kind (Enum labels)) → length labels ≤ 64
enum_few labels h = grind (arith, nat_tests)

pub codes_below : (kind : ColumnType) (a : Value) → IsTrue (is_kind kind) → Fits kind a → code_of kind a < 2 ^ bits_of kind
codes_below (Uint b) (value.Number n) typed h = h
codes_below (Uint b) (value.Text n) typed h = absurd h
codes_below (Uint b) (value.Label n) typed h = absurd h
codes_below (Text k) (value.Number n) typed h = absurd h
codes_below (Text k) (value.Text n) typed h = rw (← bytes_bits k) (padded-lt k (text_of n) h)
codes_below (Text k) (value.Label n) typed h = absurd h
codes_below (Enum labels) (value.Number n) typed h = absurd h
codes_below (Enum labels) (value.Text n) typed h = absurd h
codes_below (Enum labels) (value.Label n) typed h = label-lt (length labels) n (enum_few labels typed) h

-- a text that stands before another in a dictionary has the smaller number
ordered : (k : ℕ) (s t : List ℕ) → IsText k s → IsText k t → slice_cmp nat_cmp s t ≡ ordering.Less → padded k s < padded k t
ordered zero [] [] hs ht e = absurd cc
ordered zero [] (y ∷ ys) hs ht e = absurd (omega arith)
ordered zero (x ∷ xs) t hs ht e = absurd (omega arith)
ordered (suc k) [] [] hs ht e = absurd cc
ordered (suc k) [] (y ∷ ys) hs ht e =
    let first = first_printable y ys ht.0 in
    let some : 1 * 256 ^ k ≤ y * 256 ^ k = mul-le-mul_right (256 ^ k) (omega arith) in
    rw (padded-nil, padded-cons k y ys (omega arith)) (omega (arith, some, bytes_pos k))
ordered (suc k) (x ∷ xs) [] hs ht e = absurd cc
ordered (suc k) (x ∷ xs) (y ∷ ys) hs ht e =
    let xs_text : IsText k xs = (rest_printable x xs hs.0, omega arith) in
    let ys_text : IsText k ys = (rest_printable y ys ht.0, omega arith) in
    let tail = ordered k xs ys xs_text ys_text in
    rw (padded-cons k x xs xs_text.1, padded-cons k y ys ys_text.1)
    (elim (heads x y (slice_cmp nat_cmp xs ys) e) [
      | inl less ↦ let more : (x + 1) * 256 ^ k ≤ y * 256 ^ k = mul-le-mul_right (256 ^ k) (omega arith) in
          omega (arith, more, add-mul x 1 (256 ^ k), padded-lt k xs xs_text)
      | inr same ↦ let e : x * 256 ^ k ≡ y * 256 ^ k = ap (λ z. z * 256 ^ k) same.0 in omega (arith, e, tail same.1)
    ])
  where
    heads : (x y : ℕ) (o : Ordering) → ordering_then (nat_cmp x y) o ≡ ordering.Less → (x < y) ⊎ ((x ≡ y) × (o ≡ ordering.Less))
    heads x y o e = grind (arith, nat_tests)

pub codes_keep_order : (kind : ColumnType) (a b : Value) → IsTrue (is_kind kind) → Fits kind a → Fits kind b → IsBefore kind a b → code_of kind a < code_of kind b
codes_keep_order (Uint b) (value.Number m) (value.Number n) typed f g h = h
codes_keep_order (Uint b) (value.Number m) (value.Text n) typed f g h = absurd h
codes_keep_order (Uint b) (value.Number m) (value.Label n) typed f g h = absurd h
codes_keep_order (Uint b) (value.Text m) v typed f g h = absurd f
codes_keep_order (Uint b) (value.Label m) v typed f g h = absurd f
codes_keep_order (Text k) (value.Number m) v typed f g h = absurd f
codes_keep_order (Text k) (value.Text m) (value.Number n) typed f g h = absurd h
codes_keep_order (Text k) (value.Text m) (value.Text n) typed f g h = ordered k (text_of m) (text_of n) f g h
codes_keep_order (Text k) (value.Text m) (value.Label n) typed f g h = absurd h
codes_keep_order (Text k) (value.Label m) v typed f g h = absurd f
codes_keep_order (Enum labels) (value.Number m) v typed f g h = absurd f
codes_keep_order (Enum labels) (value.Text m) v typed f g h = absurd f
codes_keep_order (Enum labels) (value.Label m) (value.Number n) typed f g h = absurd h
codes_keep_order (Enum labels) (value.Label m) (value.Text n) typed f g h = absurd h
codes_keep_order (Enum labels) (value.Label m) (value.Label n) typed f g h = h

-- the code of a kept text, as a shift gives it
pub shifted : (k n : ℕ) → IsTrue (is_kind (Text k)) → IsText k (text_of n) → n / 2 ^ (8 * (16 - k)) ≡ padded k (text_of n)
shifted k n typed h =
    let kept = kept_of_code k n (text_bytes k typed).1 (text-lt k n h) h.1 in
    let code : ℕ = padded k (text_of n) in
    let unit = bytes_bits (16 - k) in
    let divided = div-mul-add code (256 ^ (16 - k)) 0 (bytes_pos (16 - k)) in
    ap (λ x. n / x) (sym unit) ∙ ap (λ x. x / 256 ^ (16 - k)) (kept ∙ sym (add-zero (code * 256 ^ (16 - k)))) ∙ divided

-- a kept number is below 2 ^ 128, so a code whose unit takes it further has no value
pub kept_fits : (k n : ℕ) → IsText k (text_of (n * 256 ^ (16 - k))) → n * 2 ^ (8 * (16 - k)) < 2 ^ 128
kept_fits k n h = rw (← bytes_bits (16 - k)) (text-lt k (n * 256 ^ (16 - k)) h)
