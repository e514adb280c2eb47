-- A filter over the numbers from one on.
use Rattle.std.proofs.Common.{◌≡◌, ℕ, zero, suc, ◌+◌, ◌-◌, ◌<◌, ◌≤◌, Bool, true, false, [], ◌∷◌, inl, inr, refl, ap, ap₂, ◌∙◌, arith}
use Rattle.std.specs.List.{filter, range_with_len}
use Rattle.std.proofs.lemmas.Bool.{cases_eq, cases_lt}

-- none passes
pub filter-none : (p : ℕ → Bool) (a n : ℕ) → ((c : ℕ) → a ≤ c → p c ≡ false) → filter p (range_with_len a n) ≡ []
filter-none p a zero fails = refl
filter-none p a (suc n) fails = rw (fails a (omega arith)) (filter-none p (a + 1) n (λ c low. fails c (omega arith)))

-- the first that passes, and m numbers behind it
pub filter-next : (p : ℕ → Bool) (a n s m : ℕ) → a ≤ s → a + n ≡ s + 1 + m → ((c : ℕ) → a ≤ c → c < s → p c ≡ false) → p s ≡ true
    → filter p (range_with_len a n) ≡ s ∷ filter p (range_with_len (s + 1) m)
filter-next p a zero s m low all fails passes = absurd (omega arith)
filter-next p a (suc n) s m low all fails passes =
    elim (cases_eq a s) [
      | inl e ↦
          let left : n ≡ m = omega arith in
          rw (ap p e ∙ passes) (ap₂ (λ x k. x ∷ filter p (range_with_len (x + 1) k)) e left)
      | inr ne ↦ rw (fails a (omega arith) (omega arith)) (filter-next p (a + 1) n s m (omega arith) (omega arith) (λ c h k. fails c (omega arith) k) passes)
    ]

-- a whole run passes, and fails other
pub filter-run : (p : ℕ → Bool) (a n s m : ℕ) → a ≤ s → ((c : ℕ) → p c ≡ true → c < a + n) → ((c : ℕ) → a ≤ c → c < s → p c ≡ false)
    → ((c : ℕ) → s ≤ c → c < s + m → p c ≡ true) → ((c : ℕ) → s + m ≤ c → p c ≡ false) → filter p (range_with_len a n) ≡ range_with_len s m
filter-run p a n s zero low end before within behind =
    filter-none p a n (λ c h. elim (cases_lt c s) [ inl k ↦ before c h k | inr k ↦ behind c (omega arith) ])
filter-run p a n s (suc m) low end before within behind =
    let passes = within s (omega arith) (omega arith) in
    let fits = end s passes in
    let left : a + n ≡ s + 1 + (a + n - (s + 1)) = omega arith in
    filter-next p a n s (a + n - (s + 1)) low left before passes
    ∙ ap (λ l. s ∷ l)
    (filter-run p (s + 1) (a + n - (s + 1)) (s + 1) m (omega arith) (λ c h. let k = end c h in omega arith) (λ c h k. absurd (omega arith))
    (λ c h k. within c (omega arith) (omega arith)) (λ c h. behind c (omega arith)))
