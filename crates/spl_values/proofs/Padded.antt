-- Texts, padded and as numbers.
use Rattle.std.proofs.Common.{◌≡◌, ℕ, zero, suc, ◌+◌, ◌-◌, ◌*◌, ◌/◌, ◌%◌, ◌^◌, ◌<◌, ◌≤◌, ◌==◌, true, false, cond, ◌⊎◌, inl, inr, List, [], ◌∷◌, ◌++◌, length, replicate, refl, sym, ap, ◌∙◌, arith, IsTrue, length-append, length-drop, drop, drop-cons, get_or, add-one}
use Rattle.std.proofs.Math.Nat.{zero-mul, add-mul, mul_assoc, mul-le-mul_right}
use Rattle.std.proofs.Math.ListN.{length-replicate}
use Rattle.std.proofs.lemmas.Nat.{pow-add, div-mul-add, mod-mul-add, div-add-mod', mod_below}
use Rattle.std.proofs.lemmas.Bool.Decides.{nat_tests}
use Rattle.std.specs.List.{list_all}
use Rattle.spl_values.specs.Kinds.{big_endian, padded, unpadded, is_printable, IsText}
use Rattle.spl_values.proofs.Powers.{bytes_pos, digit_lt, first_lt}

is_zero : (n : ℕ) → (n == 0) ≡ true → n ≡ 0
is_zero n h = grind (arith, nat_tests)

-- only zeros
zeros : (k : ℕ) → big_endian (replicate k 0) ≡ 0
unfolding big_endian
zeros zero = refl
zeros (suc k) =
    let none : List ℕ = replicate k 0 in
    let no_weight : 0 * 256 ^ length none ≡ 0 = zero-mul (256 ^ length none) in
    rw (zeros k, no_weight) refl

pub padded-nil : (k : ℕ) → padded k [] ≡ 0
padded-nil k = let e : k - 0 ≡ k = omega arith in rw e (zeros k)

pub padded-cons : (k b : ℕ) (bs : List ℕ) → length bs ≤ k → padded (suc k) (b ∷ bs) ≡ b * 256 ^ k + padded k bs
unfolding big_endian
padded-cons k b bs h =
    let left : suc k - suc (length bs) ≡ k - length bs = omega arith in
    let len : length (bs ++ replicate (k - length bs) 0) ≡ k = rw (length-append, length-replicate) (omega arith) in
    rw (left, len) refl

-- the front byte of the text of a number
pub unpadded-cons : (k n : ℕ) → 0 < n → unpadded (suc k) n ≡ (n / 256 ^ k) ∷ unpadded k (n % 256 ^ k)
unfolding unpadded
unpadded-cons k n h = let test : (n == 0) ≡ false = grind (arith, nat_tests) in rw test refl

pub unpadded-zero : (k : ℕ) → unpadded k 0 ≡ []
unfolding unpadded
unpadded-zero zero = refl
unpadded-zero (suc k) = refl

pub unpadded-none : (n : ℕ) → unpadded 0 n ≡ []
unfolding unpadded
unpadded-none n = refl

pub unpadded-before : (p n : ℕ) → 0 < n → 0 < p → unpadded p n ≡ (n / 256 ^ (p - 1)) ∷ unpadded (p - 1) (n % 256 ^ (p - 1))
unpadded-before p n h q = let e : p ≡ suc (p - 1) = omega arith in ap (λ m. unpadded m n) e ∙ unpadded-cons (p - 1) n h

pub length-unpadded : (k n : ℕ) → length (unpadded k n) ≤ k
unfolding unpadded
length-unpadded zero n = omega arith
length-unpadded (suc k) n =
    let tail = length-unpadded k (n % 256 ^ k) in
    elim (n == 0) as (λ b. length (cond b [] ((n / 256 ^ k) ∷ unpadded k (n % 256 ^ k))) ≤ suc k) [ true ↦ omega arith | false ↦ omega arith ]

-- a number is that of its text
pub padded-unpadded : (k n : ℕ) → n < 256 ^ k → padded k (unpadded k n) ≡ n
unfolding unpadded
padded-unpadded zero n h = omega (arith, padded-nil 0)
padded-unpadded (suc k) n h =
    let tail = padded-unpadded k (n % 256 ^ k) (mod_below n (256 ^ k) (bytes_pos k)) in
    let short = length-unpadded k (n % 256 ^ k) in
    let whole : n / 256 ^ k * 256 ^ k + n % 256 ^ k ≡ n = div-add-mod' n (256 ^ k) in
    let cons : padded (suc k) ((n / 256 ^ k) ∷ unpadded k (n % 256 ^ k)) ≡ n = padded-cons k (n / 256 ^ k) (unpadded k (n % 256 ^ k)) short ∙ ap (λ x. n / 256 ^ k * 256 ^ k + x) tail ∙ whole in
    elim (n == 0) as (λ b. (n == 0) ≡ b → padded (suc k) (cond b [] ((n / 256 ^ k) ∷ unpadded k (n % 256 ^ k))) ≡ n)
    [ true ↦ λ e. padded-nil (suc k) ∙ sym (is_zero n e) | false ↦ λ e. cons ] refl

-- the parts of a text that begins with a byte
pub first_printable : (b : ℕ) (bs : List ℕ) → IsTrue (list_all is_printable (b ∷ bs)) → (32 ≤ b) × (b ≤ 126)
first_printable b bs h = grind (arith, nat_tests)

pub rest_printable : (b : ℕ) (bs : List ℕ) → IsTrue (list_all is_printable (b ∷ bs)) → IsTrue (list_all is_printable bs)
rest_printable b bs h = grind (arith, nat_tests)

-- a text's number fits its bytes
pub padded-lt : (k : ℕ) (text : List ℕ) → IsText k text → padded k text < 256 ^ k
padded-lt k [] h = rw padded-nil (bytes_pos k)
padded-lt zero (b ∷ bs) h = absurd (omega arith)
padded-lt (suc k) (b ∷ bs) h =
    let first = first_printable b bs h.0 in
    let short : length bs ≤ k = omega arith in
    let tail = padded-lt k bs (rest_printable b bs h.0, short) in
    rw (padded-cons k b bs short) (digit_lt b (padded k bs) k (omega arith) tail)

-- a text is that of its number
pub unpadded-padded : (k : ℕ) (text : List ℕ) → IsText k text → unpadded k (padded k text) ≡ text
unpadded-padded k [] h = rw padded-nil (unpadded-zero k)
unpadded-padded zero (b ∷ bs) h = absurd (omega arith)
unpadded-padded (suc k) (b ∷ bs) h =
    let first = first_printable b bs h.0 in
    let short : length bs ≤ k = omega arith in
    let inner : IsText k bs = (rest_printable b bs h.0, short) in
    let tail = unpadded-padded k bs inner in
    let low = padded-lt k bs inner in
    let some : 1 * 256 ^ k ≤ b * 256 ^ k = mul-le-mul_right (256 ^ k) (omega arith) in
    let pos : 0 < b * 256 ^ k + padded k bs = omega (arith, some, bytes_pos k) in
    let byte : (b * 256 ^ k + padded k bs) / 256 ^ k ≡ b = div-mul-add b (256 ^ k) (padded k bs) low in
    let left : (b * 256 ^ k + padded k bs) % 256 ^ k ≡ padded k bs = mod-mul-add b (256 ^ k) (padded k bs) low in
    rw (padded-cons k b bs short, unpadded-cons k (b * 256 ^ k + padded k bs) pos, byte, left, tail) refl

-- more bytes of padding are more zeros behind the number
pub padded-more : (k j : ℕ) (text : List ℕ) → length text ≤ k → padded (k + j) text ≡ padded k text * 256 ^ j
padded-more k j [] h = rw (padded-nil (k + j), padded-nil k) (sym (zero-mul (256 ^ j)))
padded-more zero j (b ∷ bs) h = absurd (omega arith)
padded-more (suc k) j (b ∷ bs) h =
    let short : length bs ≤ k = omega arith in
    let e : suc k + j ≡ suc (k + j) = omega arith in
    let tail = padded-more k j bs short in
    let power : 256 ^ (k + j) ≡ 256 ^ k * 256 ^ j = pow-add 256 k j in
    let spread : b * (256 ^ k * 256 ^ j) ≡ b * 256 ^ k * 256 ^ j = sym (mul_assoc b (256 ^ k) (256 ^ j)) in
    let sum : (b * 256 ^ k + padded k bs) * 256 ^ j ≡ b * 256 ^ k * 256 ^ j + padded k bs * 256 ^ j = add-mul (b * 256 ^ k) (padded k bs) (256 ^ j) in
    ap (λ m. padded m (b ∷ bs)) e ∙ padded-cons (k + j) b bs (omega arith) ∙ ap (λ x. b * x + padded (k + j) bs) power ∙ ap (λ x. x + padded (k + j) bs) spread ∙ ap (λ x. b * 256 ^ k * 256 ^ j + x) tail ∙ sym sum ∙ ap (λ x. x * 256 ^ j) (sym (padded-cons k b bs short))

-- one step through the text of a number, from its front
pub record Step (p n : ℕ) : Type 0 where
  pub byte : n / 256 ^ (p - 1) < 256
  pub below : n % 256 ^ (p - 1) < 256 ^ (p - 1)
  pub text : unpadded p n ≡ (n / 256 ^ (p - 1)) ∷ unpadded (p - 1) (n % 256 ^ (p - 1))

pub step_of : (p n : ℕ) → 0 < n → 0 < p → n < 256 ^ p → Step p n
step_of p n some left h =
    let e : p ≡ suc (p - 1) = omega arith in
    let whole : n < 256 ^ suc (p - 1) = rw (← e) h in
    record { byte = first_lt n (p - 1) whole; below = mod_below n (256 ^ (p - 1)) (bytes_pos (p - 1)); text = unpadded-before p n some left }

-- no bytes are left
pub text_ends : (p n : ℕ) → n < 256 ^ p → (n ≤ 0) ⊎ (p ≤ 0) → unpadded p n ≡ []
text_ends p n h (inl e) = let z : n ≡ 0 = omega arith in rw z (unpadded-zero p)
text_ends p n h (inr e) = let z : p ≡ 0 = omega arith in rw z (unpadded-none n)

-- a byte of a text, and what is left of the text behind it
pub padded-drop : (text : List ℕ) (i : ℕ) → i < length text → length text ≤ 16 → padded (16 - i) (drop i text) ≡ get_or text i 0 * 256 ^ (15 - i) + padded (16 - (i + 1)) (drop (i + 1) text)
padded-drop text i h few =
    let e : 16 - i ≡ suc (15 - i) = omega arith in
    let f : 16 - (i + 1) ≡ 15 - i = omega arith in
    let short : length (drop (i + 1) text) ≤ 15 - i = omega (arith, length-drop (i + 1) text) in
    let parts : drop i text ≡ get_or text i 0 ∷ drop (i + 1) text = rw add-one (drop-cons text i 0 h) in
    ap (λ m. padded m (drop i text)) e ∙ ap (λ t. padded (suc (15 - i)) t) parts ∙ padded-cons (15 - i) (get_or text i 0) (drop (i + 1) text) short
    ∙ ap (λ m. get_or text i 0 * 256 ^ (15 - i) + padded m (drop (i + 1) text)) (sym f)
