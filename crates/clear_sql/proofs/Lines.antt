-- The text of an answer, a piece at a time.
use Rattle.std.proofs.Common.{◌≡◌, ℕ, zero, suc, ◌+◌, ◌<◌, ◌≤◌, List, [], ◌∷◌, ◌++◌, length, take, drop, get_or, ap, sym, ◌∙◌, arith}
use Rattle.std.specs.List.{AllZip, flat_map}
use Rattle.std.proofs.lemmas.List.{append-nil, append_assoc, take_more, take_all, drop_more, drop_all}
use Rattle.std.proofs.lemmas.Grind.{flat_map-append}
use Rattle.spl_values.specs.Shapes.{ColumnParts}
use Rattle.cell_merge.specs.declared.spec.CellItem.{CellItem}
use Rattle.clear_sql.specs.declared.answer.Outcome.{Outcome}
use Rattle.clear_sql.specs.AnswerText.{OutcomeFits, outcome_lines, results_lines}

-- the lines of one more item of a list
pub lines-more : {A : Type 0} (f : A → List ℕ) (xs : List A) (i : ℕ) (d x : A) (old now new : List ℕ) → i < length xs → x ≡ get_or xs i d
    → now ≡ old ++ flat_map f (take i xs) → new ≡ now ++ f x → new ≡ old ++ flat_map f (take (i + 1) xs)
lines-more f xs i d x old now new h is-x is-now is-new =
    let one : flat_map f (take (i + 1) xs) ≡ flat_map f (take i xs) ++ f x =
    ap (λ l. flat_map f l) (take_more xs i d h) ∙ (flat_map-append f (take i xs) (get_or xs i d ∷ []) ∙ ap (λ l. flat_map f (take i xs) ++ l) (append-nil (f (get_or xs i d)) ∙ ap f (sym is-x))) in
    is-new ∙ (ap (λ l. l ++ f x) is-now ∙ (append_assoc old (flat_map f (take i xs)) (f x) ∙ ap (λ l. old ++ l) (sym one)))

pub lines-all : {A : Type 0} (f : A → List ℕ) (xs : List A) (i : ℕ) (old now : List ℕ) → length xs ≤ i
    → now ≡ old ++ flat_map f (take i xs) → now ≡ old ++ flat_map f xs
lines-all f xs i old now h is-now = is-now ∙ ap (λ l. old ++ flat_map f l) (take_all i xs h)

-- what fits place by place fits at each place
pub record FitsAt (columns : List ColumnParts) (items : List CellItem) (results : List Outcome) (i : ℕ) (d : CellItem) (o : Outcome) : Type 0 where
  pub there : i < length results
  pub fits : OutcomeFits columns (get_or items i d) (get_or results i o)

pub fits-at : (columns : List ColumnParts) (items : List CellItem) (results : List Outcome) (i : ℕ) (d : CellItem) (o : Outcome) → AllZip (OutcomeFits columns) items results → i < length items → FitsAt columns items results i d o
fits-at columns [] results i d o z h = absurd (omega arith)
fits-at columns (x ∷ items) [] i d o z h = absurd z
fits-at columns (x ∷ items) (y ∷ results) zero d o z h = record { there = omega arith; fits = z.0 }
fits-at columns (x ∷ items) (y ∷ results) (suc i) d o z h = let r = fits-at columns items results i d o z.1 (omega arith) in record { there = let t = r.there in omega arith; fits = r.fits }

pub fits-there : (columns : List ColumnParts) (items : List CellItem) (results : List Outcome) (i : ℕ) → AllZip (OutcomeFits columns) items results → i < length items → i < length results
fits-there columns [] results i z h = absurd (omega arith)
fits-there columns (x ∷ items) [] i z h = absurd z
fits-there columns (x ∷ items) (y ∷ results) zero z h = omega arith
fits-there columns (x ∷ items) (y ∷ results) (suc i) z h = let t = fits-there columns items results i z.1 (omega arith) in omega arith

pub results-more : (columns : List ColumnParts) (items : List CellItem) (results : List Outcome) (i : ℕ) (d : CellItem) (o : Outcome) (all old new : List ℕ) → i < length items → i < length results → o ≡ get_or results i o
    → all ≡ old ++ results_lines columns (drop i items) (drop i results) → new ≡ old ++ outcome_lines columns (get_or items i d) o
    → all ≡ new ++ results_lines columns (drop (i + 1) items) (drop (i + 1) results)
unfolding results_lines
results-more columns items results i d o all old new h k is-o e is-new =
    let rest = results_lines columns (drop (i + 1) items) (drop (i + 1) results) in
    let one : drop i results ≡ o ∷ drop (i + 1) results = drop_more results i o k ∙ ap (λ x. x ∷ drop (i + 1) results) (sym is-o) in
    rw (drop_more items i d h, one) at e
    ∙ (sym (append_assoc old (outcome_lines columns (get_or items i d) o) rest) ∙ ap (λ l. l ++ rest) (sym is-new))

pub results-end : (columns : List ColumnParts) (items : List CellItem) (results : List Outcome) (i : ℕ) (all done : List ℕ) → length items ≤ i
    → all ≡ done ++ results_lines columns (drop i items) (drop i results) → done ≡ all
unfolding results_lines
results-end columns items results i all done h e = sym (rw (drop_all i items h) at e ∙ append-nil done)
