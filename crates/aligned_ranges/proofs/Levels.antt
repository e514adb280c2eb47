-- The ranges of one level of a cover.
use Rattle.std.proofs.Common.{◌≡◌, ℕ, ◌+◌, ◌-◌, ◌*◌, ◌/◌, ◌%◌, ◌^◌, ◌<◌, ◌≤◌, ◌⊎◌, Bool, true, false, not, cond, ◌&&◌, ◌||◌, ◌==◌, leb, ltb, [], ◌∷◌, ◌++◌, map, inl, inr, refl, sym, ap, ap₂, ◌∙◌, arith}
use Rattle.std.specs.List.{filter, range_with_len}
use Rattle.std.proofs.Math.Nat.{mul-le-mul_left}
use Rattle.std.proofs.lemmas.Bool.{and_from, and_left, and_parts, and_right, cases_lt, eq-eqb, eqb-false, eqb-true, le-leb, le-ltb, leb-true, lt-leb, lt-ltb, ne_eqb, not_from_false, not_from_true}
use Rattle.std.proofs.lemmas.List.Elements.{filter_agree}
use Rattle.std.proofs.lemmas.Nat.{pow_pos}
use Rattle.aligned_ranges.specs.Climbing.{outer}
use Rattle.aligned_ranges.specs.Covers.{cover_level, in_cover, lies_in, range}
use Rattle.aligned_ranges.proofs.Ends.{Ends, between_ends, ends_up}
use Rattle.aligned_ranges.proofs.Filters.{filter-next, filter-none, filter-run}

-- ---- below the highest level

-- whether c is one of the numbers from a to below b, and half of it isn't among those from half of a, rounded up, to below half of b
stays : ℕ → ℕ → ℕ → Bool
stays a b c = (leb a c && ltb c b) && not (leb ((a + 1) / 2) (c / 2) && ltb (c / 2) (b / 2))

stays-apart : (a b c : ℕ) → (c < a) ⊎ (b ≤ c) → stays a b c ≡ false
unfolding stays
stays-apart a b c (inl h) = and_left (leb a c && ltb c b) _ (and_left (leb a c) (ltb c b) (lt-leb a c h))
stays-apart a b c (inr h) = and_left (leb a c && ltb c b) _ (and_right (leb a c) (ltb c b) (le-ltb c b h))

half_inside : (a b c : ℕ) → a ≤ c → c < b → (a < c) ⊎ (a % 2 ≡ 0) → (c + 1 < b) ⊎ (b % 2 ≡ 0) → ((a + 1) / 2 ≤ c / 2) × (c / 2 < b / 2)
half_inside a b c h k (inl x) (inl y) = (omega arith, omega arith)
half_inside a b c h k (inl x) (inr y) = (omega arith, omega arith)
half_inside a b c h k (inr x) (inl y) = (omega arith, omega arith)
half_inside a b c h k (inr x) (inr y) = (omega arith, omega arith)

stays-inside : (a b c : ℕ) → a ≤ c → c < b → (a < c) ⊎ (a % 2 ≡ 0) → (c + 1 < b) ⊎ (b % 2 ≡ 0) → stays a b c ≡ false
unfolding stays
stays-inside a b c h k x y =
    let half = half_inside a b c h k x y in
    and_right (leb a c && ltb c b) (not (leb ((a + 1) / 2) (c / 2) && ltb (c / 2) (b / 2)))
    (not_from_true (leb ((a + 1) / 2) (c / 2) && ltb (c / 2) (b / 2)) (and_from _ _ (le-leb ((a + 1) / 2) (c / 2) half.0) (lt-ltb (c / 2) (b / 2) half.1)))

stays-no : (a b c : ℕ) → (a < c) ⊎ ((c < a) ⊎ (a % 2 ≡ 0)) → (c + 1 < b) ⊎ ((b ≤ c) ⊎ (b % 2 ≡ 0)) → stays a b c ≡ false
stays-no a b c (inl x) (inl y) = stays-inside a b c (omega arith) (omega arith) (inl x) (inl y)
stays-no a b c (inl x) (inr (inl y)) = stays-apart a b c (inr y)
stays-no a b c (inl x) (inr (inr y)) = elim (cases_lt c b) [ inl h ↦ stays-inside a b c (omega arith) h (inl x) (inr y) | inr h ↦ stays-apart a b c (inr h) ]
stays-no a b c (inr (inl x)) y = stays-apart a b c (inl x)
stays-no a b c (inr (inr x)) (inl y) = elim (cases_lt c a) [ inl h ↦ stays-apart a b c (inl h) | inr h ↦ stays-inside a b c h (omega arith) (inr x) (inl y) ]
stays-no a b c (inr (inr x)) (inr (inl y)) = stays-apart a b c (inr y)
stays-no a b c (inr (inr x)) (inr (inr y)) =
    elim (cases_lt c a) [
      | inl h ↦ stays-apart a b c (inl h)
      | inr h ↦ elim (cases_lt c b) [ inl k ↦ stays-inside a b c h k (inr x) (inr y) | inr k ↦ stays-apart a b c (inr k) ]
    ]

stays-first : (a b : ℕ) → a < b → a % 2 ≡ 1 → stays a b a ≡ true
unfolding stays
stays-first a b h odd =
    let out : a / 2 < (a + 1) / 2 = omega arith in
    and_from _ _ (and_from _ _ (le-leb a a (omega arith)) (lt-ltb a b h)) (not_from_false _ (and_left (leb ((a + 1) / 2) (a / 2)) (ltb (a / 2) (b / 2)) (lt-leb ((a + 1) / 2) (a / 2) out)))

stays-last : (a b : ℕ) → a < b → b % 2 ≡ 1 → stays a b (b - 1) ≡ true
unfolding stays
stays-last a b h odd =
    let out : b / 2 ≤ (b - 1) / 2 = omega arith in
    and_from _ _ (and_from _ _ (le-leb a (b - 1) (omega arith)) (lt-ltb (b - 1) b (omega arith)))
    (not_from_false _ (and_right (leb ((a + 1) / 2) ((b - 1) / 2)) (ltb ((b - 1) / 2) (b / 2)) (le-ltb ((b - 1) / 2) (b / 2) out)))

-- the outer numbers, by the cases of the two ends
pub outer-none : (a b : ℕ) → b ≤ a → outer a b ≡ []
outer-none a b h = rw (le-ltb a b h) refl

pub outer-some : (a b : ℕ) → a < b → outer a b ≡ cond (a % 2 == 1) (a ∷ []) [] ++ cond (b % 2 == 1) ((b - 1) ∷ []) []
outer-some a b h = rw (lt-ltb a b h) refl

even : (n : ℕ) → (n % 2 == 1) ≡ false → n % 2 ≡ 0
even n e = let ne = eqb-false (n % 2) 1 e in omega arith

left_of : (a b : ℕ) (n : ℕ) → a < b → ((c : ℕ) → stays a b c ≡ true → c < n) → (x y : Bool) → (a % 2 == 1) ≡ x → (b % 2 == 1) ≡ y
    → filter (stays a b) (range_with_len 0 n) ≡ cond x (a ∷ []) [] ++ cond y ((b - 1) ∷ []) []
left_of a b n h bound true true ex ey =
    let odd = eqb-true (a % 2) 1 ex in
    let odd_end = eqb-true (b % 2) 1 ey in
    let first = stays-first a b h odd in
    let last = stays-last a b h odd_end in
    let fits = bound a first in
    let fits_end = bound (b - 1) last in
    let before : (c : ℕ) → 0 ≤ c → c < a → stays a b c ≡ false = λ c p q. stays-apart a b c (inl q) in
    let between : (c : ℕ) → a + 1 ≤ c → c < b - 1 → stays a b c ≡ false = λ c p q. stays-no a b c (inl (omega arith)) (inl (omega arith)) in
    let behind : (c : ℕ) → b - 1 + 1 ≤ c → stays a b c ≡ false = λ c p. stays-apart a b c (inr (omega arith)) in
    filter-next (stays a b) 0 n a (n - (a + 1)) (omega arith) (omega arith) before first
    ∙ ap (λ l. a ∷ l)
    (filter-next (stays a b) (a + 1) (n - (a + 1)) (b - 1) (n - b) (omega arith) (omega arith) between last
    ∙ ap (λ l. (b - 1) ∷ l) (filter-none (stays a b) (b - 1 + 1) (n - b) behind))
left_of a b n h bound true false ex ey =
    let odd = eqb-true (a % 2) 1 ex in
    let even_end = even b ey in
    let first = stays-first a b h odd in
    let fits = bound a first in
    let before : (c : ℕ) → 0 ≤ c → c < a → stays a b c ≡ false = λ c p q. stays-apart a b c (inl q) in
    let behind : (c : ℕ) → a + 1 ≤ c → stays a b c ≡ false = λ c p. stays-no a b c (inl (omega arith)) (inr (inr even_end)) in
    filter-next (stays a b) 0 n a (n - (a + 1)) (omega arith) (omega arith) before first
    ∙ ap (λ l. a ∷ l) (filter-none (stays a b) (a + 1) (n - (a + 1)) behind)
left_of a b n h bound false true ex ey =
    let even_start = even a ex in
    let odd_end = eqb-true (b % 2) 1 ey in
    let last = stays-last a b h odd_end in
    let fits_end = bound (b - 1) last in
    let before : (c : ℕ) → 0 ≤ c → c < b - 1 → stays a b c ≡ false = λ c p q. stays-no a b c (inr (inr even_start)) (inl (omega arith)) in
    let behind : (c : ℕ) → b - 1 + 1 ≤ c → stays a b c ≡ false = λ c p. stays-apart a b c (inr (omega arith)) in
    filter-next (stays a b) 0 n (b - 1) (n - b) (omega arith) (omega arith) before last
    ∙ ap (λ l. (b - 1) ∷ l) (filter-none (stays a b) (b - 1 + 1) (n - b) behind)
left_of a b n h bound false false ex ey = filter-none (stays a b) 0 n (λ c p. stays-no a b c (inr (inr (even a ex))) (inr (inr (even b ey))))

filter-stays : (a b n : ℕ) → ((c : ℕ) → stays a b c ≡ true → c < n) → filter (stays a b) (range_with_len 0 n) ≡ outer a b
filter-stays a b n bound =
    elim (cases_lt a b) [
      | inl h ↦ left_of a b n h bound (a % 2 == 1) (b % 2 == 1) refl refl ∙ sym (outer-some a b h)
      | inr h ↦ filter-none (stays a b) 0 n (λ c p. elim (cases_lt c a) [ inl q ↦ stays-apart a b c (inl q) | inr q ↦ stays-apart a b c (inr (omega arith)) ]) ∙ sym (outer-none a b h)
    ]

-- ---- the tests of a level

within : (lo hi j c : ℕ) → lies_in lo hi j c ≡ true → c < hi + 1
within lo hi j c passes =
    let ends = leb-true ((c + 1) * 2 ^ j) (hi + 1) (and_parts (leb lo (c * 2 ^ j)) (leb ((c + 1) * 2 ^ j) (hi + 1)) passes).1 in
    let some = pow_pos j in
    let more : (c + 1) * 1 ≤ (c + 1) * 2 ^ j = mul-le-mul_left (c + 1) some in
    omega arith

test_below : (lo hi w j a b : ℕ) → Ends lo hi j a b → (j + 1 ≡ w → ⊥) → (c : ℕ) → in_cover lo hi w j c ≡ stays a b c
unfolding stays
test_below lo hi w j a b r ne c =
    ap₂ (λ x y. x && y) (between_ends lo hi j a b r c)
    (ap (λ x. x || not (lies_in lo hi (j + 1) (c / 2))) (ne_eqb (j + 1) w ne) ∙ ap not (between_ends lo hi (j + 1) ((a + 1) / 2) (b / 2) (ends_up lo hi j a b r) (c / 2)))

and_true : (x y : Bool) → y ≡ true → (x && y) ≡ x
and_true true y e = e
and_true false y e = refl

test_highest : (lo hi w j a b : ℕ) → Ends lo hi j a b → j + 1 ≡ w → (c : ℕ) → in_cover lo hi w j c ≡ (leb a c && ltb c b)
test_highest lo hi w j a b r e c =
    let passes = ap (λ x. x || not (lies_in lo hi (j + 1) (c / 2))) (eq-eqb (j + 1) w e) in
    and_true (lies_in lo hi j c) ((j + 1 == w) || not (lies_in lo hi (j + 1) (c / 2))) passes ∙ between_ends lo hi j a b r c

pub in_cover-within : (lo hi w j c : ℕ) → in_cover lo hi w j c ≡ true → c < hi + 1
in_cover-within lo hi w j c passes = within lo hi j c (and_parts (lies_in lo hi j c) ((j + 1 == w) || not (lies_in lo hi (j + 1) (c / 2))) passes).0

-- ---- the ranges of a level

pub level_below : (lo hi w j a b : ℕ) → Ends lo hi j a b → (j + 1 ≡ w → ⊥) → cover_level lo hi w j ≡ map (range j) (outer a b)
unfolding cover_level
level_below lo hi w j a b r ne =
    let test = test_below lo hi w j a b r ne in
    ap (map (range j))
    (filter_agree (in_cover lo hi w j) (stays a b) test (range_with_len 0 (hi + 1))
    ∙ filter-stays a b (hi + 1) (λ c passes. in_cover-within lo hi w j c (test c ∙ passes)))

pub level_highest : (lo hi w j a b : ℕ) → Ends lo hi j a b → j + 1 ≡ w → cover_level lo hi w j ≡ map (range j) (range_with_len a (b - a))
unfolding cover_level
level_highest lo hi w j a b r e =
    let p : ℕ → Bool = in_cover lo hi w j in
    let test = test_highest lo hi w j a b r e in
    let before : (c : ℕ) → 0 ≤ c → c < a → p c ≡ false = λ c h k. test c ∙ and_left (leb a c) (ltb c b) (lt-leb a c k) in
    let run : (c : ℕ) → a ≤ c → c < a + (b - a) → p c ≡ true = λ c h k. test c ∙ and_from (leb a c) (ltb c b) (le-leb a c h) (lt-ltb c b (omega arith)) in
    let behind : (c : ℕ) → a + (b - a) ≤ c → p c ≡ false = λ c h. test c ∙ and_right (leb a c) (ltb c b) (le-ltb c b (omega arith)) in
    ap (map (range j)) (filter-run p 0 (hi + 1) a (b - a) (omega arith) (λ c passes. let h = in_cover-within lo hi w j c passes in omega arith) before run behind)
