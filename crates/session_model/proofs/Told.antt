-- What the secret of a point tells of rows: their cell, where its word is 1, and nothing where it is 0.
use Rattle.std.proofs.Common.{◌≡◌, ℕ, zero, suc, ◌+◌, ◌-◌, ◌*◌, ◌/◌, ◌%◌, ◌^◌, ◌<◌, ◌≤◌, ◌⊎◌, Bool, true, false, cond, eqb, List, [], ◌∷◌, inl, inr, refl, sym, ap, ap₂, subst, ◌∙◌, arith}
use Rattle.std.specs.Prelude.{map, slice_index, sum_by}
use Rattle.std.specs.List.{AllByRecursion, filter}
use Rattle.std.proofs.Math.Nat.{div-lt_iff_lt-mul, mod-eq_of_lt, one-mul, zero-mul}
use Rattle.std.proofs.lemmas.List.Elements.{filter_agree}
use Rattle.std.proofs.lemmas.List.Sums.{sum_by-cons}
use Rattle.std.proofs.lemmas.Nat.{pow-add, pow_pos}
use Rattle.spl_words.specs.Folds.{fold_word}
use Rattle.spl_words.specs.Rising.{rising}
use Rattle.spl_words.specs.Secrets.{Secret, secret_value, secrets_value}
use Rattle.spl_words.specs.declared.secret.TreeKind.TheVariants.{Point}
use Rattle.spl_words.proofs.Rising.{any-rising}
use Rattle.cell_merge.specs.Rows.{Row}
use Rattle.cell_merge.specs.Cells.{Addends, cell, cell_width}
use Rattle.cell_merge.specs.declared.spec.CellSpec.{CellSpec}
use Rattle.cell_merge.proofs.All.{cell_empty}
use Rattle.cell_merge.proofs.Lists.{each-map}
use Rattle.cell_runs.specs.CellsBy.{cells_by, rows_at}
use Rattle.cell_runs.proofs.Grouping.{cell_at}
use Rattle.cell_runs.proofs.Numbers.{all_among, among_all}
use Rattle.session_model.proofs.CellSums.{no_word}
use Rattle.session_model.proofs.PointCells.{point_is, point_told}

-- ---- one secret

bit : (b : ℕ) → b ≤ 1 → (b ≡ 0) ⊎ (b ≡ 1)
bit zero h = inl refl
bit (suc zero) h = inr refl
bit (suc (suc b)) h = absurd (omega arith)

says : (s : Secret) (x : ℕ) → s.kind ≡ Point → secret_value s x ≡ cond (eqb x s.alpha) s.beta 0
says s x is = ap (λ (f : ℕ → ℕ). f x) (point_is s is)

pub at_most_one : (s : Secret) (x : ℕ) → s.kind ≡ Point → s.beta ≤ 1 → secret_value s x ≤ 1
at_most_one s x is once = subst (λ n. n ≤ 1) (sym (says s x is)) (step (eqb x s.alpha))
  where
    step : (b : Bool) → cond b s.beta 0 ≤ 1
    step true = once
    step false = omega arith

-- a single secret says what it says
pub alone : (s : Secret) (x : ℕ) → s.kind ≡ Point → s.beta ≤ 1 → secrets_value (s ∷ []) x ≡ secret_value s x
alone s x is once =
    let e : sum_by (λ t. secret_value t x) (s ∷ []) ≡ secret_value s x + 0 = sum_by-cons (λ t. secret_value t x) s [] in
    let small = at_most_one s x is once in
    let none : secret_value s x + 0 ≡ secret_value s x = omega arith in
    rw (e, none) (mod-eq_of_lt (omega (arith, small)))

-- functions that agree give one fold
pub same_fold : (f g : ℕ → ℕ) → ((x : ℕ) → f x ≡ g x) → (entries : List (ℕ × List ℕ)) (k : ℕ) → fold_word f entries k ≡ fold_word g entries k
same_fold f g same entries k = ap (λ n. n % 2 ^ 64) (sums entries)
  where
    sums : (es : List (ℕ × List ℕ)) → sum_by (λ (e : ℕ × List ℕ). f e.0 * slice_index e.1 k) es ≡ sum_by (λ (e : ℕ × List ℕ). g e.0 * slice_index e.1 k) es
    sums [] = refl
    sums (e ∷ es) =
        sum_by-cons (λ (e : ℕ × List ℕ). f e.0 * slice_index e.1 k) e es
        ∙ (ap₂ (λ m n. m * slice_index e.1 k + n) (same e.0) (sums es) ∙ sym (sum_by-cons (λ (e : ℕ × List ℕ). g e.0 * slice_index e.1 k) e es))

-- ---- the rows that it tells

module _ (adds : Addends) (spec : CellSpec) (number : Row → ℕ) (rows : List Row) (s : Secret) (point : s.kind ≡ Point) where
  abbrev told : Row → Bool
  told r = eqb (secret_value s (number r)) 1

  told_there : s.beta ≡ 1 → filter told rows ≡ rows_at number rows s.alpha
  told_there once = filter_agree told (λ r. eqb (number r) s.alpha) (λ r. ap (λ n. eqb n 1) (says s (number r) point) ∙ (ap (λ b. eqb (cond (eqb (number r) s.alpha) b 0) 1) once ∙ step (eqb (number r) s.alpha))) rows
    where
      step : (b : Bool) → eqb (cond b 1 0) 1 ≡ b
      step true = refl
      step false = refl

  told_nowhere : s.beta ≡ 0 → filter told rows ≡ []
  told_nowhere never = filter_agree told (λ r. false) (λ r. ap (λ n. eqb n 1) (says s (number r) point) ∙ (ap (λ b. eqb (cond (eqb (number r) s.alpha) b 0) 1) never ∙ step (eqb (number r) s.alpha))) rows ∙ none rows
    where
      step : (b : Bool) → eqb (cond b 0 0) 1 ≡ false
      step true = refl
      step false = refl

      none : (rows : List Row) → filter (λ (r : Row). false) rows ≡ []
      none [] = refl
      none (r ∷ rows) = none rows

  -- a fold over the cells by a number is the cell of the rows that the secret tells
  pub fold_told : s.beta ≤ 1 → (k : ℕ) → fold_word (secret_value s) (cells_by adds spec number rows) k ≡ slice_index (cell adds spec (filter told rows)) k % 2 ^ 64
  fold_told once k =
      let here = slice_index (cell adds spec (rows_at number rows s.alpha)) k in
      elim (bit s.beta once) [
        | inl never ↦
            point_told adds spec number rows s k point
            ∙ (ap (λ b. b * here % 2 ^ 64) never
            ∙ (ap (λ n. n % 2 ^ 64) (zero-mul here ∙ sym (ap (λ l. slice_index l k) (cell_empty adds spec) ∙ no_word (cell_width spec) k))
            ∙ ap (λ l. slice_index (cell adds spec l) k % 2 ^ 64) (sym (told_nowhere never))))
        | inr is ↦
            point_told adds spec number rows s k point
            ∙ (ap (λ b. b * here % 2 ^ 64) is ∙ (ap (λ n. n % 2 ^ 64) (one-mul here) ∙ ap (λ l. slice_index (cell adds spec l) k % 2 ^ 64) (sym (told_there is))))
      ]

-- ---- the numbers that the cells are under

-- a number without some of its lowest bits
pub fewer_bits : (bits depth x : ℕ) → depth ≤ bits → x < 2 ^ bits → x / 2 ^ (bits - depth) < 2 ^ depth
fewer_bits bits depth x inside below =
    let whole : depth + (bits - depth) ≡ bits = omega arith in
    let power : 2 ^ bits ≡ 2 ^ depth * 2 ^ (bits - depth) = ap (λ n. 2 ^ n) (sym whole) ∙ pow-add 2 depth (bits - depth) in
    (div-lt_iff_lt-mul (pow_pos (bits - depth))).1 (rw power at below)

-- what holds of each row's number holds of each number that a cell is under
pub each_number : (P : ℕ → Type 0) (adds : Addends) (spec : CellSpec) (number : Row → ℕ) (rows : List Row) → AllByRecursion (λ r. P (number r)) rows → AllByRecursion (λ (q : ℕ × List ℕ). P q.0) (cells_by adds spec number rows)
each_number P adds spec number rows each =
    let numbers = map number rows in
    let of_each : AllByRecursion P numbers = each-map P number rows each in
    each-map (λ (q : ℕ × List ℕ). P q.0) (cell_at adds spec number rows) (rising numbers)
    (among_all P (rising numbers) (λ x t. all_among P numbers x of_each (sym (any-rising (λ y. eqb y x) numbers) ∙ t)))
