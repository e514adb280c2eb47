-- Pairs whose numbers are halved.
use Rattle.std.proofs.Common.{◌≡◌, ℕ, ◌≤◌, ◌/◌, List, [], ◌∷◌, ◌++◌, length, map, refl, ap, ◌∙◌, arith}
use Rattle.std.specs.List.{flat_map, AllByRecursion}
use Rattle.cell_runs.specs.CellsBy.{ArePairs}

abbrev pub half : ℕ × List ℕ → ℕ × List ℕ
half p = (p.0 / 2, p.1)

keys_halved : (l : List (ℕ × List ℕ)) → map (λ n. n / 2) (map (λ (p : ℕ × List ℕ). p.0) l) ≡ map (λ (p : ℕ × List ℕ). p.0) (map half l)
keys_halved [] = refl
keys_halved (p ∷ l) = ap (λ r. p.0 / 2 ∷ r) (keys_halved l)

cells_same : (l : List (ℕ × List ℕ)) → flat_map (λ (p : ℕ × List ℕ). p.1) l ≡ flat_map (λ (p : ℕ × List ℕ). p.1) (map half l)
cells_same [] = refl
cells_same (p ∷ l) = ap (λ r. p.1 ++ r) (cells_same l)

wide_same : (w : ℕ) (l : List (ℕ × List ℕ)) → AllByRecursion (λ (p : ℕ × List ℕ). length p.1 ≡ w) l → AllByRecursion (λ (p : ℕ × List ℕ). length p.1 ≡ w) (map half l)
wide_same w [] h = tt
wide_same w (p ∷ l) h = (h.0, wide_same w l h.1)

pub halved_pairs : (w : ℕ) (l : List (ℕ × List ℕ)) (keys cells keys' : List ℕ) → ArePairs w l keys cells → keys' ≡ map (λ n. n / 2) keys → ArePairs w (map half l) keys' cells
halved_pairs w l keys cells keys' are is = record {
  each_key = is ∙ (ap (map (λ n. n / 2)) are.each_key ∙ keys_halved l);
  each_cell = are.each_cell ∙ cells_same l;
  wide = wide_same w l are.wide;
}

pub halves_keep : (m n : ℕ) → m ≤ n → m / 2 ≤ n / 2
halves_keep m n h = omega arith
