-- What the loops of a cover have pushed.
use Rattle.std.proofs.Common.{◌≡◌, ℕ, suc, ◌+◌, ◌-◌, ◌<◌, ◌≤◌, List, [], ◌∷◌, ◌++◌, map, sym, ap, ◌∙◌, arith}
use Rattle.std.specs.List.{flat_map, range_with_len}
use Rattle.std.proofs.lemmas.List.{append_assoc, append-nil}
use Rattle.std.proofs.lemmas.List.FromFn.{map-range_with_len_more}
use Rattle.aligned_ranges.specs.declared.ranges.Range.{Range}
use Rattle.aligned_ranges.specs.Covers.{cover, cover_level}

-- ---- one after another

pub pushed_more : {A : Type 0} (f : ℕ → A) (out now new : List A) (a k : ℕ) → a ≤ k → now ≡ out ++ map f (range_with_len a (k - a)) → new ≡ now ++ f k ∷ []
    → new ≡ out ++ map f (range_with_len a (k + 1 - a))
pushed_more f out now new a k low e is =
    let n : k - a + 1 ≡ k + 1 - a = omega arith in
    let more = map-range_with_len_more f a (k - a) k (omega arith) in
    is
    ∙ (ap (λ l. l ++ f k ∷ []) e
    ∙ (append_assoc out (map f (range_with_len a (k - a))) (f k ∷ [])
    ∙ ap (λ l. out ++ l) (sym more ∙ ap (λ m. map f (range_with_len a m)) n)))

pub pushed_all : {A : Type 0} (f : ℕ → A) (out now : List A) (a k b : ℕ) → b ≤ k → k - a ≤ b - a → now ≡ out ++ map f (range_with_len a (k - a)) → now ≡ out ++ map f (range_with_len a (b - a))
pushed_all f out now a k b h most e = let n : k - a ≡ b - a = omega arith in e ∙ ap (λ m. out ++ map f (range_with_len a m)) n

-- ---- one level after another

pub level_next : {A : Type 0} (f : ℕ → List A) (done new all step : List A) (a n : ℕ) → a < n → new ≡ done ++ step → step ≡ f a
    → done ++ flat_map f (range_with_len a (n - a)) ≡ all → new ++ flat_map f (range_with_len (a + 1) (n - (a + 1))) ≡ all
level_next f done new all step a n h is e inv =
    let m : n - a ≡ suc (n - (a + 1)) = omega arith in
    let rest = flat_map f (range_with_len (a + 1) (n - (a + 1))) in
    ap (λ l. l ++ rest) (is ∙ ap (λ s. done ++ s) e) ∙ (append_assoc done (f a) rest ∙ (sym (ap (λ k. done ++ flat_map f (range_with_len a k)) m) ∙ inv))

pub level_last : {A : Type 0} (f : ℕ → List A) (done new all step : List A) (a n : ℕ) → a + 1 ≡ n → new ≡ done ++ step → step ≡ f a
    → done ++ flat_map f (range_with_len a (n - a)) ≡ all → new ≡ all
level_last f done new all step a n h is e inv =
    let none : n - (a + 1) ≡ 0 = omega arith in
    let rest = level_next f done new all step a n (omega arith) is e inv in
    sym (append-nil new) ∙ (ap (λ k. new ++ flat_map f (range_with_len (a + 1) k)) (sym none) ∙ rest)

pub level_first : (lo hi w : ℕ) (out : List Range) → out ≡ [] → out ++ flat_map (cover_level lo hi w) (range_with_len 0 (w - 0)) ≡ cover lo hi w
unfolding cover
level_first lo hi w out e =
    let all : w - 0 ≡ w = omega arith in
    ap (λ l. l ++ flat_map (cover_level lo hi w) (range_with_len 0 (w - 0))) e ∙ ap (λ n. flat_map (cover_level lo hi w) (range_with_len 0 n)) all
