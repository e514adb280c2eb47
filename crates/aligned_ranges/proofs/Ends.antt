-- Where the ranges of a level that lie in an interval begin and end.
use Rattle.std.proofs.Common.{◌≡◌, ℕ, ◌+◌, ◌*◌, ◌/◌, ◌%◌, ◌^◌, ◌<◌, ◌≤◌, ◌⊎◌, ◌&&◌, inl, inr, sym, ap, ap₂, ◌∙◌, add-one, leb, ltb, arith}
use Rattle.std.proofs.Math.Nat.{mul-le-mul_left, mul-le-mul_right, two-pow-succ}
use Rattle.std.proofs.lemmas.Bool.{cases_eq, cases_lt, le-leb, lt-leb, lt-ltb, le-ltb}
use Rattle.std.proofs.lemmas.Nat.{pow_pos}
use Rattle.aligned_ranges.specs.Covers.{lies_in}

-- the ranges of level j that lie between lo and hi have the indices from first to below end
pub record Ends (lo hi j first end : ℕ) : Type 0 where
  pub first_reached : lo ≤ first * 2 ^ j
  pub first_least : first * 2 ^ j < lo + 2 ^ j
  pub end_within : end * 2 ^ j ≤ hi + 1
  pub end_most : hi + 1 < end * 2 ^ j + 2 ^ j

pub ends_lowest : (lo hi : ℕ) → Ends lo hi 0 lo (hi + 1)
ends_lowest lo hi = record { first_reached = omega arith; first_least = omega arith; end_within = omega arith; end_most = omega arith }

-- ---- a level up

pub twice : (j : ℕ) → 2 ^ (j + 1) ≡ 2 ^ j + 2 ^ j
twice j = rw add-one (two-pow-succ j)

half_up : (a : ℕ) → ((a + 1) / 2 + (a + 1) / 2 ≡ a) ⊎ ((a + 1) / 2 + (a + 1) / 2 ≡ a + 1)
half_up a = elim (cases_eq (a % 2) 0) [ inl e ↦ inl (omega arith) | inr e ↦ inr (omega arith) ]

half_down : (a : ℕ) → (a / 2 + a / 2 ≡ a) ⊎ (a / 2 + a / 2 + 1 ≡ a)
half_down a = elim (cases_eq (a % 2) 0) [ inl e ↦ inl (omega arith) | inr e ↦ inr (omega arith) ]

first_up : (lo a q P Q : ℕ) → Q ≡ P + P → (q + q ≡ a) ⊎ (q + q ≡ a + 1) → lo ≤ a * P → a * P < lo + P → (lo ≤ q * Q) × (q * Q < lo + Q)
first_up lo a q P Q e (inl d) h k = let f : (q + q) * P ≡ a * P = ap (λ n. n * P) d in rw e (omega arith, omega arith)
first_up lo a q P Q e (inr d) h k = let f : (q + q) * P ≡ (a + 1) * P = ap (λ n. n * P) d in rw e (omega arith, omega arith)

end_up : (n b q P Q : ℕ) → Q ≡ P + P → (q + q ≡ b) ⊎ (q + q + 1 ≡ b) → b * P ≤ n → n < b * P + P → (q * Q ≤ n) × (n < q * Q + Q)
end_up n b q P Q e (inl d) h k = let f : (q + q) * P ≡ b * P = ap (λ n. n * P) d in rw e (omega arith, omega arith)
end_up n b q P Q e (inr d) h k = let f : (q + q + 1) * P ≡ b * P = ap (λ n. n * P) d in rw e (omega arith, omega arith)

pub ends_up : (lo hi j a b : ℕ) → Ends lo hi j a b → Ends lo hi (j + 1) ((a + 1) / 2) (b / 2)
ends_up lo hi j a b r =
    let first = first_up lo a ((a + 1) / 2) (2 ^ j) (2 ^ (j + 1)) (twice j) (half_up a) r.first_reached r.first_least in
    let end = end_up (hi + 1) b (b / 2) (2 ^ j) (2 ^ (j + 1)) (twice j) (half_down b) r.end_within r.end_most in
    record { first_reached = first.0; first_least = first.1; end_within = end.0; end_most = end.1 }

-- ---- what lies between the ends

from_first : (lo a c P : ℕ) → lo ≤ a * P → a * P < lo + P → leb lo (c * P) ≡ leb a c
from_first lo a c P h k =
    elim (cases_lt c a) [
      | inl l ↦
          let next : c + 1 ≤ a = omega arith in
          let reach = mul-le-mul_right P next in
          lt-leb lo (c * P) (omega arith) ∙ sym (lt-leb a c l)
      | inr l ↦ let reach = mul-le-mul_right P l in le-leb lo (c * P) (omega arith) ∙ sym (le-leb a c l)
    ]

to_end : (n b c P : ℕ) → b * P ≤ n → n < b * P + P → leb ((c + 1) * P) n ≡ ltb c b
to_end n b c P h k =
    elim (cases_lt c b) [
      | inl l ↦
          let next : c + 1 ≤ b = omega arith in
          let reach = mul-le-mul_right P next in
          le-leb ((c + 1) * P) n (omega arith) ∙ sym (lt-ltb c b l)
      | inr l ↦ let reach = mul-le-mul_right P l in lt-leb ((c + 1) * P) n (omega arith) ∙ sym (le-ltb c b l)
    ]

pub between_ends : (lo hi j a b : ℕ) → Ends lo hi j a b → (c : ℕ) → lies_in lo hi j c ≡ (leb a c && ltb c b)
between_ends lo hi j a b r c = ap₂ (λ x y. x && y) (from_first lo a c (2 ^ j) r.first_reached r.first_least) (to_end (hi + 1) b c (2 ^ j) r.end_within r.end_most)

-- ---- how large the ends are

pub end_fits : (lo hi j a b n : ℕ) → Ends lo hi j a b → hi < n → b ≤ n
end_fits lo hi j a b n r h =
    let some = pow_pos j in
    let more : b * 1 ≤ b * 2 ^ j = mul-le-mul_left b some in
    let within = r.end_within in
    omega arith
