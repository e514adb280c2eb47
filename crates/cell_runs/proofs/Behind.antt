-- A pair put behind others, by the last of them.
use Rattle.std.proofs.Common.{◌≡◌, ◌≢◌, ℕ, cond, eqb, List, [], ◌∷◌, ◌++◌, refl, ap, ◌∙◌}
use Rattle.std.proofs.lemmas.Bool.{cond-true, cond-false, eq-eqb, ne_eqb}
use Rattle.cell_merge.specs.declared.spec.CellSpec.{CellSpec}
use Rattle.cell_merge.specs.Cells.{merge}
use Rattle.cell_runs.specs.Runs.{put_behind}

behind_one : (spec : CellSpec) (q p : ℕ × List ℕ) → put_behind spec (q ∷ []) p ≡ cond (eqb q.0 p.0) ((q.0, merge spec q.1 p.1) ∷ []) (q ∷ p ∷ [])
unfolding put_behind
behind_one spec q p = refl

-- the first stays
pub behind_first : (spec : CellSpec) (x y : ℕ × List ℕ) (l : List (ℕ × List ℕ)) (p : ℕ × List ℕ) → put_behind spec (x ∷ y ∷ l) p ≡ x ∷ put_behind spec (y ∷ l) p
unfolding put_behind
behind_first spec x y l p = refl

behind_last : (spec : CellSpec) (l : List (ℕ × List ℕ)) (q p : ℕ × List ℕ) → put_behind spec (l ++ q ∷ []) p ≡ l ++ put_behind spec (q ∷ []) p
behind_last spec [] q p = refl
behind_last spec (x ∷ []) q p = behind_first spec x q [] p
behind_last spec (x ∷ y ∷ l) q p = behind_first spec x y (l ++ q ∷ []) p ∙ ap (λ r. x ∷ r) (behind_last spec (y ∷ l) q p)

-- where there is none, it is the only one
pub behind_none : (spec : CellSpec) (p : ℕ × List ℕ) → put_behind spec [] p ≡ p ∷ []
unfolding put_behind
behind_none spec p = refl

-- where the last has its number, the cells are merged
pub behind_same : (spec : CellSpec) (l : List (ℕ × List ℕ)) (q p : ℕ × List ℕ) → q.0 ≡ p.0 → put_behind spec (l ++ q ∷ []) p ≡ l ++ (q.0, merge spec q.1 p.1) ∷ []
behind_same spec l q p e = behind_last spec l q p ∙ ap (λ r. l ++ r) (behind_one spec q p ∙ cond-true (eqb q.0 p.0) ((q.0, merge spec q.1 p.1) ∷ []) (q ∷ p ∷ []) (eq-eqb q.0 p.0 e))

-- and else it stands at the end
pub behind_other : (spec : CellSpec) (l : List (ℕ × List ℕ)) (q p : ℕ × List ℕ) → q.0 ≢ p.0 → put_behind spec (l ++ q ∷ []) p ≡ l ++ q ∷ p ∷ []
behind_other spec l q p e = behind_last spec l q p ∙ ap (λ r. l ++ r) (behind_one spec q p ∙ cond-false (eqb q.0 p.0) ((q.0, merge spec q.1 p.1) ∷ []) (q ∷ p ∷ []) (ne_eqb q.0 p.0 e))
