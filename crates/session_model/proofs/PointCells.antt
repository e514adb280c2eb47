-- A point function tells the cell at its number.
use Rattle.std.proofs.Common.{◌≡◌, ◌≢◌, ℕ, ◌+◌, ◌*◌, ◌%◌, ◌^◌, ◌<◌, false, ◌||◌, cond, eqb, List, [], ◌∷◌, inl, inr, refl, sym, ap, ap₂, subst, ◌∙◌, arith}
use Rattle.std.specs.Prelude.{map, slice_index, sum_by}
use Rattle.std.specs.List.{AllByRecursion}
use Rattle.std.proofs.Math.Nat.{zero-mul}
use Rattle.std.proofs.lemmas.Bool.{cases_Bool, eqb-true, eq-eqb, ne_eqb, false≢true}
use Rattle.std.proofs.lemmas.List.Sums.{sum_by-cons}
use Rattle.spl_words.specs.Rising.{among, rising}
use Rattle.spl_words.specs.Folds.{fold_word}
use Rattle.spl_words.specs.Secrets.{Secret, point_value, secret_value}
use Rattle.spl_words.specs.declared.secret.TreeKind.TheVariants.{Point}
use Rattle.spl_words.proofs.Rising.{Rises, any-rising, Rises-rising}
use Rattle.cell_merge.specs.Rows.{Row}
use Rattle.cell_merge.specs.Cells.{Addends, cell, cell_width}
use Rattle.cell_merge.specs.declared.spec.CellSpec.{CellSpec}
use Rattle.cell_merge.proofs.All.{cell_empty}
use Rattle.cell_runs.specs.CellsBy.{cells_by, rows_at}
use Rattle.cell_runs.proofs.Grouping.{cell_at}
use Rattle.cell_runs.proofs.Numbers.{none_among}
use Rattle.session_model.proofs.CellSums.{no_word}

over_numbers : (F : ℕ × List ℕ → ℕ) (h : ℕ → ℕ × List ℕ) (ns : List ℕ) → sum_by F (map h ns) ≡ sum_by (λ n. F (h n)) ns
over_numbers F h [] = refl
over_numbers F h (n ∷ ns) = sum_by-cons F (h n) (map h ns) ∙ (ap (λ m. F (h n) + m) (over_numbers F h ns) ∙ sym (sum_by-cons (λ m. F (h m)) n ns))

-- ---- a point among rising numbers

module _ (alpha beta : ℕ) (w : ℕ → ℕ) where
  abbrev value : ℕ → ℕ
  value n = point_value alpha beta n

  here : (n : ℕ) → n ≡ alpha → value n * w n ≡ beta * w alpha
  here n e = ap (λ b. cond b beta 0 * w n) (eq-eqb n alpha e) ∙ ap (λ m. beta * w m) e

  elsewhere : (n : ℕ) → n ≢ alpha → value n * w n ≡ 0
  elsewhere n d = ap (λ b. cond b beta 0 * w n) (ne_eqb n alpha d) ∙ zero-mul (w n)

  above : (ns : List ℕ) → AllByRecursion (λ n. alpha < n) ns → sum_by (λ n. value n * w n) ns ≡ 0
  above [] h = refl
  above (n ∷ ns) h =
      let first = elsewhere n (λ e. later n h.0 e) in
      let rest = above ns h.1 in
      sum_by-cons (λ n. value n * w n) n ns ∙ ap₂ (λ a b. a + b) first rest
    where
      later : (n : ℕ) → alpha < n → n ≡ alpha → ⊥
      later n h e = omega arith

  at_point : (ns : List ℕ) → Rises ns → (among ns alpha ≡ false → w alpha ≡ 0) → sum_by (λ n. value n * w n) ns ≡ beta * w alpha
  at_point [] rises none = sym (ap (λ m. beta * m) (none refl) ∙ times_zero beta)
    where
      times_zero : (b : ℕ) → b * 0 ≡ 0
      times_zero b = omega arith
  at_point (n ∷ ns) rises none =
      elim (cases_Bool (eqb n alpha)) [
        | inl t ↦
            let is = eqb-true n alpha t in
            let rest = above ns (subst (λ a. AllByRecursion (λ m. a < m) ns) is rises.0) in
            sum_by-cons (λ n. value n * w n) n ns ∙ (ap₂ (λ a b. a + b) (here n is) rest ∙ plus_zero (beta * w alpha))
        | inr f ↦
            let rest = at_point ns rises.1 (λ absent. none (ap (λ t. t || among ns alpha) f ∙ absent)) in
            sum_by-cons (λ n. value n * w n) n ns ∙ (ap₂ (λ a b. a + b) (elsewhere n (λ e. false≢true (sym f ∙ eq-eqb n alpha e))) rest ∙ zero_plus (beta * w alpha))
      ]
    where
      plus_zero : (n : ℕ) → n + 0 ≡ n
      plus_zero n = omega arith

      zero_plus : (n : ℕ) → 0 + n ≡ n
      zero_plus n = omega arith

-- ---- cells

pub point_is : (s : Secret) → s.kind ≡ Point → secret_value s ≡ point_value s.alpha s.beta
point_is s is = rw is refl

pub point_told : (adds : Addends) (spec : CellSpec) (number : Row → ℕ) (rows : List Row) (s : Secret) (k : ℕ) → s.kind ≡ Point
    → fold_word (secret_value s) (cells_by adds spec number rows) k ≡ s.beta * slice_index (cell adds spec (rows_at number rows s.alpha)) k % 2 ^ 64
point_told adds spec number rows s k is =
    let w = λ (n : ℕ). slice_index (cell adds spec (rows_at number rows n)) k in
    let absent_word : among (rising (map number rows)) s.alpha ≡ false → w s.alpha ≡ 0 = λ absent.
    (let none = none_among number s.alpha rows (sym (any-rising (λ y. eqb y s.alpha) (map number rows)) ∙ absent) in
    ap (λ l. slice_index (cell adds spec l) k) none ∙ (ap (λ l. slice_index l k) (cell_empty adds spec) ∙ no_word (cell_width spec) k)) in
    ap (λ f. fold_word f (cells_by adds spec number rows) k) (point_is s is)
    ∙ ap (λ n. n % 2 ^ 64) (over_numbers (λ p. point_value s.alpha s.beta p.0 * slice_index p.1 k) (cell_at adds spec number rows) (rising (map number rows))
    ∙ at_point s.alpha s.beta w (rising (map number rows)) (Rises-rising (map number rows)) absent_word)
