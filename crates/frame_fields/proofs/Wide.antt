-- Numbers of sixteen bytes, by their halves.
use Rattle.std.proofs.Common.{◌≡◌, ℕ, ◌+◌, ◌*◌, ◌/◌, ◌%◌, ◌^◌, ◌<◌, List, [], ◌∷◌, ◌++◌, length, take, drop, refl, sym, ap, ◌∙◌, arith}
use Rattle.std.specs.Int.{w64, w128, from_be_bytes, to_be_bytes}
use Rattle.std.proofs.lemmas.List.{length-take, length-drop, take-append-drop, get_or-drop, get_or-take}
use Rattle.std.proofs.lemmas.Nat.{be_bytes_8, from_be_bytes-to_be_bytes_8}
use Rattle.frame_fields.specs.Typed.{IsBytes}
use Rattle.frame_fields.proofs.Laws.{IsBytes-take, IsBytes-drop, IsWide, wide64, high_bytes}
use native.Mathlib.Nat as nat

low_0 : (n : ℕ) → n % 256 ≡ n % 2 ^ 64 % 256
low_0 n = omega arith

low_1 : (n : ℕ) → n / 256 ^ 1 % 256 ≡ n % 2 ^ 64 / 256 ^ 1 % 256
low_1 n = omega arith

low_2 : (n : ℕ) → n / 256 ^ 2 % 256 ≡ n % 2 ^ 64 / 256 ^ 2 % 256
low_2 n = omega arith

low_3 : (n : ℕ) → n / 256 ^ 3 % 256 ≡ n % 2 ^ 64 / 256 ^ 3 % 256
low_3 n = omega arith

low_4 : (n : ℕ) → n / 256 ^ 4 % 256 ≡ n % 2 ^ 64 / 256 ^ 4 % 256
low_4 n = omega arith

low_5 : (n : ℕ) → n / 256 ^ 5 % 256 ≡ n % 2 ^ 64 / 256 ^ 5 % 256
low_5 n = omega arith

low_6 : (n : ℕ) → n / 256 ^ 6 % 256 ≡ n % 2 ^ 64 / 256 ^ 6 % 256
low_6 n = omega arith

low_7 : (n : ℕ) → n / 256 ^ 7 % 256 ≡ n % 2 ^ 64 / 256 ^ 7 % 256
low_7 n = omega arith

high_0 : (n : ℕ) → n / 256 ^ 8 % 256 ≡ n / 2 ^ 64 % 256
high_0 n = refl

high_1 : (n : ℕ) → n / 256 ^ 9 % 256 ≡ n / 2 ^ 64 / 256 ^ 1 % 256
high_1 n = ap (λ (x : ℕ). x % 256) (sym (nat.div-div-eq-div-mul n (2 ^ 64) (256 ^ 1)))

high_2 : (n : ℕ) → n / 256 ^ 10 % 256 ≡ n / 2 ^ 64 / 256 ^ 2 % 256
high_2 n = ap (λ (x : ℕ). x % 256) (sym (nat.div-div-eq-div-mul n (2 ^ 64) (256 ^ 2)))

high_3 : (n : ℕ) → n / 256 ^ 11 % 256 ≡ n / 2 ^ 64 / 256 ^ 3 % 256
high_3 n = ap (λ (x : ℕ). x % 256) (sym (nat.div-div-eq-div-mul n (2 ^ 64) (256 ^ 3)))

high_4 : (n : ℕ) → n / 256 ^ 12 % 256 ≡ n / 2 ^ 64 / 256 ^ 4 % 256
high_4 n = ap (λ (x : ℕ). x % 256) (sym (nat.div-div-eq-div-mul n (2 ^ 64) (256 ^ 4)))

high_5 : (n : ℕ) → n / 256 ^ 13 % 256 ≡ n / 2 ^ 64 / 256 ^ 5 % 256
high_5 n = ap (λ (x : ℕ). x % 256) (sym (nat.div-div-eq-div-mul n (2 ^ 64) (256 ^ 5)))

high_6 : (n : ℕ) → n / 256 ^ 14 % 256 ≡ n / 2 ^ 64 / 256 ^ 6 % 256
high_6 n = ap (λ (x : ℕ). x % 256) (sym (nat.div-div-eq-div-mul n (2 ^ 64) (256 ^ 6)))

high_7 : (n : ℕ) → n / 256 ^ 15 % 256 ≡ n / 2 ^ 64 / 256 ^ 7 % 256
high_7 n = ap (λ (x : ℕ). x % 256) (sym (nat.div-div-eq-div-mul n (2 ^ 64) (256 ^ 7)))

halves : (n : ℕ) → to_be_bytes w128 n ≡ to_be_bytes w64 (n / 2 ^ 64) ++ to_be_bytes w64 (n % 2 ^ 64)
halves n = λ i. high_7 n i ∷ high_6 n i ∷ high_5 n i ∷ high_4 n i ∷ high_3 n i ∷ high_2 n i ∷ high_1 n i ∷ high_0 n i ∷ low_7 n i ∷ low_6 n i ∷ low_5 n i ∷ low_4 n i ∷ low_3 n i ∷ low_2 n i ∷ low_1 n i ∷ low_0 n i ∷ []

joined : (bytes : List ℕ) → from_be_bytes w128 bytes ≡ from_be_bytes w64 (take 8 bytes) * 2 ^ 64 + from_be_bytes w64 (drop 8 bytes)
joined bytes = omega (arith, get_or-take 8 bytes 0 0 (omega arith), get_or-take 8 bytes 1 0 (omega arith), get_or-take 8 bytes 2 0 (omega arith), get_or-take 8 bytes 3 0 (omega arith), get_or-take 8 bytes 4 0 (omega arith), get_or-take 8 bytes 5 0 (omega arith), get_or-take 8 bytes 6 0 (omega arith), get_or-take 8 bytes 7 0 (omega arith), get_or-drop 8 bytes 0 0, get_or-drop 8 bytes 1 0, get_or-drop 8 bytes 2 0, get_or-drop 8 bytes 3 0, get_or-drop 8 bytes 4 0, get_or-drop 8 bytes 5 0, get_or-drop 8 bytes 6 0, get_or-drop 8 bytes 7 0)

-- a part and its bytes
part_back : (bytes : List ℕ) → length bytes ≡ 8 → IsBytes bytes → (to_be_bytes w64 (from_be_bytes w64 bytes) ≡ bytes) × (from_be_bytes w64 bytes < 2 ^ 64)
part_back bytes len are = (be_bytes_8 bytes _ len are refl, wide64.below bytes are)

pub wide128 : IsWide w128 (2 ^ 128)
wide128 = record {
  len = λ n. refl;
  back = λ bytes len are.
      let f = part_back (take 8 bytes) (omega (arith, length-take 8 bytes, len)) (IsBytes-take 8 bytes are) in
      let b = part_back (drop 8 bytes) (omega (arith, length-drop 8 bytes, len)) (IsBytes-drop 8 bytes are) in
      let n = from_be_bytes w128 bytes in
      let h : n / 2 ^ 64 ≡ from_be_bytes w64 (take 8 bytes) = high_part n (from_be_bytes w64 (take 8 bytes)) (from_be_bytes w64 (drop 8 bytes)) (joined bytes) b.1 in
      let l : n % 2 ^ 64 ≡ from_be_bytes w64 (drop 8 bytes) = low_part n (from_be_bytes w64 (take 8 bytes)) (from_be_bytes w64 (drop 8 bytes)) (joined bytes) b.1 in
      halves n ∙ ap (λ (x : ℕ). to_be_bytes w64 x ++ to_be_bytes w64 (n % 2 ^ 64)) h ∙ ap (λ (x : ℕ). to_be_bytes w64 (from_be_bytes w64 (take 8 bytes)) ++ to_be_bytes w64 x) l ∙ ap (λ (x : List ℕ). x ++ to_be_bytes w64 (from_be_bytes w64 (drop 8 bytes))) f.0 ∙ ap (λ (x : List ℕ). take 8 bytes ++ x) b.0 ∙ take-append-drop 8 bytes;
  again = λ n lt. whole n lt;
  below = λ bytes are. sixteen bytes are;
  are = high_bytes 16;
} where
  high_part : (n h l : ℕ) → n ≡ h * 2 ^ 64 + l → l < 2 ^ 64 → n / 2 ^ 64 ≡ h
  high_part n h l e lt = omega (arith, e, lt)

  low_part : (n h l : ℕ) → n ≡ h * 2 ^ 64 + l → l < 2 ^ 64 → n % 2 ^ 64 ≡ l
  low_part n h l e lt = omega (arith, e, lt)

  whole : (n : ℕ) → n < 2 ^ 128 → from_be_bytes w128 (to_be_bytes w128 n) ≡ n
  whole n lt =
      let e1 = ap (from_be_bytes w128) (halves n) ∙ joined (to_be_bytes w64 (n / 2 ^ 64) ++ to_be_bytes w64 (n % 2 ^ 64)) in
      let h : from_be_bytes w64 (to_be_bytes w64 (n / 2 ^ 64)) ≡ n / 2 ^ 64 = from_be_bytes-to_be_bytes_8 (n / 2 ^ 64) (omega (arith, lt)) in
      let l : from_be_bytes w64 (to_be_bytes w64 (n % 2 ^ 64)) ≡ n % 2 ^ 64 = from_be_bytes-to_be_bytes_8 (n % 2 ^ 64) (omega arith) in
      e1 ∙ ap (λ (x : ℕ). x * 2 ^ 64 + from_be_bytes w64 (to_be_bytes w64 (n % 2 ^ 64))) h ∙ ap (λ (x : ℕ). n / 2 ^ 64 * 2 ^ 64 + x) l ∙ omega arith

  bound : (n h l : ℕ) → n ≡ h * 2 ^ 64 + l → h < 2 ^ 64 → l < 2 ^ 64 → n < 2 ^ 128
  bound n h l e a b = omega (arith, e, a, b)

  sixteen : (bytes : List ℕ) → IsBytes bytes → from_be_bytes w128 bytes < 2 ^ 128
  sixteen bytes are =
      let h = wide64.below (take 8 bytes) (IsBytes-take 8 bytes are) in
      let l = wide64.below (drop 8 bytes) (IsBytes-drop 8 bytes are) in
      bound (from_be_bytes w128 bytes) (from_be_bytes w64 (take 8 bytes)) (from_be_bytes w64 (drop 8 bytes)) (joined bytes) h l
