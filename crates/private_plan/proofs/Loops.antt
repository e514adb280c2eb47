-- What a loop over numbers has still to do.
use Rattle.std.proofs.Common.{◌≡◌, ℕ, suc, ◌+◌, ◌-◌, ◌<◌, ◌≤◌, ◌^◌, Bool, true, false, nat_le, List, ◌∷◌, ◌++◌, Some, None, refl, sym, ap, ◌∙◌, arith, if◌then◌else◌, unwrap_or}
use Rattle.std.specs.List.{flat_map, range_with_len, find}
use Rattle.std.proofs.lemmas.List.{append_assoc, append-nil}
use Rattle.std.proofs.lemmas.Bool.Decides.{nat_tests}

-- the numbers from a to n begin with a
pub begins : (a n : ℕ) → a < n → range_with_len a (n - a) ≡ a ∷ range_with_len (a + 1) (n - (a + 1))
begins a n h = let e : n - a ≡ suc (n - (a + 1)) = omega arith in rw e refl

-- the first turn of what is left, and the other turns
pub next_turn : {A : Type 0} (f : ℕ → List A) (done step all : List A) (a n : ℕ) → a < n → step ≡ f a
    → done ++ flat_map f (range_with_len a (n - a)) ≡ all
    → (done ++ step) ++ flat_map f (range_with_len (a + 1) (n - (a + 1))) ≡ all
next_turn f done step all a n h e i =
    let whole = ap (λ l. done ++ flat_map f l) (begins a n h) in
    ap (λ s. (done ++ s) ++ flat_map f (range_with_len (a + 1) (n - (a + 1)))) e ∙ (append_assoc done (f a) (flat_map f (range_with_len (a + 1) (n - (a + 1)))) ∙ (sym whole ∙ i))

-- a number that tells too few apart is passed over
pub passed_over : (rows a n : ℕ) → a < n → 2 ^ a < rows → find (λ q. nat_le rows (2 ^ q)) (range_with_len a (n - a)) ≡ find (λ q. nat_le rows (2 ^ q)) (range_with_len (a + 1) (n - (a + 1)))
passed_over rows a n h few =
    let no : nat_le rows (2 ^ a) ≡ false = grind (arith, nat_tests, few) in
    ap (find (λ q. nat_le rows (2 ^ q))) (begins a n h) ∙ rw no refl

-- one that tells enough apart is found
pub found : (rows a n : ℕ) → a < n → rows ≤ 2 ^ a → find (λ q. nat_le rows (2 ^ q)) (range_with_len a (n - a)) ≡ Some a
found rows a n h enough =
    let yes : nat_le rows (2 ^ a) ≡ true = grind (arith, nat_tests, enough) in
    ap (find (λ q. nat_le rows (2 ^ q))) (begins a n h) ∙ rw yes refl

either : (b : Bool) → unwrap_or {T = ℕ} (if b then Some 18 else None) 18 ≡ 18
either true = refl
either false = refl

-- what stands for the last number, whether it is found or not
pub last_one : (rows a : ℕ) → a ≡ 18 → unwrap_or (find (λ q. nat_le rows (2 ^ q)) (range_with_len a (19 - a))) 18 ≡ 18
last_one rows a e = rw e (either (nat_le rows (2 ^ 18)))

-- no turn is left
pub no_turn : {A : Type 0} (f : ℕ → List A) (done all : List A) (a n : ℕ) → n ≤ a → done ++ flat_map f (range_with_len a (n - a)) ≡ all → done ≡ all
no_turn f done all a n h i =
    let none : n - a ≡ 0 = omega arith in
    sym (append-nil done) ∙ (ap (λ k. done ++ flat_map f (range_with_len a k)) (sym none) ∙ i)
