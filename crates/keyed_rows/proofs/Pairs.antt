-- The keys and cells of some pairs, and of those with one more behind them.
use Rattle.std.proofs.Common.{◌≡◌, ℕ, ◌*◌, List, [], ◌∷◌, ◌++◌, length, map, ap, sym, ◌∙◌}
use Rattle.std.specs.List.{AllByRecursion, flat_map}
use Rattle.std.proofs.lemmas.List.{append-nil, length-map, map-append}
use Rattle.std.proofs.lemmas.Grind.{flat_map-append}
use Rattle.cell_runs.specs.CellsBy.{ArePairs}
use Rattle.cell_runs.proofs.Moving.{length-cells}

abbrev pub keys_of : List (ℕ × List ℕ) → List ℕ
keys_of l = map (λ p. p.0) l

abbrev pub cells_in : List (ℕ × List ℕ) → List ℕ
cells_in l = flat_map (λ p. p.1) l

pub keys-snoc : (l : List (ℕ × List ℕ)) (p : ℕ × List ℕ) → keys_of (l ++ p ∷ []) ≡ keys_of l ++ p.0 ∷ []
keys-snoc l p = map-append (λ (p : ℕ × List ℕ). p.0) l (p ∷ [])

pub cells-snoc : (l : List (ℕ × List ℕ)) (p : ℕ × List ℕ) → cells_in (l ++ p ∷ []) ≡ cells_in l ++ p.1
cells-snoc l p = flat_map-append (λ (p : ℕ × List ℕ). p.1) l (p ∷ []) ∙ ap (λ r. cells_in l ++ r) (append-nil p.1)

pub wide-front : (w : ℕ) (l : List (ℕ × List ℕ)) (p : ℕ × List ℕ) → AllByRecursion (λ q. length q.1 ≡ w) (l ++ p ∷ []) → AllByRecursion (λ q. length q.1 ≡ w) l × (length p.1 ≡ w)
wide-front w [] p h = (tt, h.0)
wide-front w (x ∷ l) p h = let rest = wide-front w l p h.1 in ((h.0, rest.0), rest.1)

-- as many words as the keys need
pub whole : (w : ℕ) (pairs : List (ℕ × List ℕ)) (keys cells : List ℕ) → ArePairs w pairs keys cells → length cells ≡ length keys * w
whole w pairs keys cells are =
    ap (λ l. length l) are.each_cell ∙ (length-cells w pairs are.wide ∙ ap (λ n. n * w) (sym (ap (λ l. length l) are.each_key ∙ length-map pairs (λ (p : ℕ × List ℕ). p.0))))
