-- A cell more, and the cells by a number.
use Rattle.std.proofs.Common.{◌≡◌, ◌≢◌, ℕ, ◌^◌, ◌<◌, ◌≤◌, Bool, true, false, ◌||◌, eqb, List, [], ◌∷◌, ◌++◌, length, map, inl, inr, refl, ap, sym, subst, ◌∙◌, arith}
use Rattle.std.specs.List.{AllByRecursion}
use Rattle.std.proofs.lemmas.Bool.{cases_Bool, cases_order, eq-eqb, eqb-true, ne_eqb, false≢true}
use Rattle.std.proofs.lemmas.List.Folds.{list_any-append}
use Rattle.spl_words.specs.Rising.{among, rising}
use Rattle.spl_words.proofs.Rising.{Rises, any-rising, Rises-rising, same_rising}
use Rattle.cell_merge.specs.declared.spec.CellSpec.{CellSpec}
use Rattle.cell_merge.specs.Rows.{Row, Apart, Interleaves}
use Rattle.cell_merge.specs.Cells.{Addends, cell, merge}
use Rattle.cell_merge.proofs.Labels.{cell_merge}
use Rattle.cell_merge.proofs.Lists.{each-map, Interleaves-filter, Interleaves-map}
use Rattle.cell_runs.specs.CellsBy.{cells_by, rows_at}
use Rattle.cell_runs.specs.Runs.{put_behind}
use Rattle.cell_runs.proofs.Behind.{behind_first, behind_none, behind_other, behind_same}
use Rattle.cell_runs.proofs.Numbers.{all_among, all_at, among_all, any-interleaved, left_only, none_among, none_at, only_among, or_none, or_parts, right_only, Rises-snoc}

module _ (adds : Addends) (spec : CellSpec) (number : Row → ℕ) where
  abbrev pub cell_at : List Row → ℕ → ℕ × List ℕ
  cell_at rows n = (n, cell adds spec (rows_at number rows n))

  -- a has rows that are done, b rows that all have the number k, which none of a is above, and c is both
  module _ (a b c : List Row) (k : ℕ) (both : Interleaves a b c) (own : AllByRecursion (λ r. number r ≡ k) b) (some : 0 < length b)
      (apart : Apart (rows_at number c k)) (few : length (rows_at number c k) < 2 ^ 64) where
    same_cell : (n : ℕ) → k ≢ n → cell_at a n ≡ cell_at c n
    same_cell n d =
        let rows : rows_at number c n ≡ rows_at number a n = left_only (rows_at number a n) (rows_at number b n) (rows_at number c n) (Interleaves-filter (λ r. eqb (number r) n) a b c both) (none_at number k n b d own) in
        ap (λ l. (n, cell adds spec l)) (sym rows)

    new_cell : rows_at number a k ≡ [] → (k, cell adds spec b) ≡ cell_at c k
    new_cell none =
        let rows : rows_at number c k ≡ rows_at number b k = right_only (rows_at number a k) (rows_at number b k) (rows_at number c k) (Interleaves-filter (λ r. eqb (number r) k) a b c both) none in
        ap (λ l. (k, cell adds spec l)) (sym (rows ∙ all_at number k b own))

    merged_cell : merge spec (cell adds spec (rows_at number a k)) (cell adds spec b) ≡ cell adds spec (rows_at number c k)
    merged_cell =
        ap (λ l. merge spec (cell adds spec (rows_at number a k)) (cell adds spec l)) (sym (all_at number k b own))
        ∙ cell_merge adds spec (rows_at number a k) (rows_at number b k) (rows_at number c k) (Interleaves-filter (λ r. eqb (number r) k) a b c both) apart few

    -- where the number is among those that are done, it is the last
    put_there : (l : List ℕ) → Rises l → AllByRecursion (λ n. n ≤ k) l → among l k ≡ true → put_behind spec (map (cell_at a) l) (k, cell adds spec b) ≡ map (cell_at c) l
    put_there [] rises below e = absurd (false≢true e)
    put_there (x ∷ []) rises below e =
        let same : x ≡ k = eqb-true x k (sym (or_none (eqb x k)) ∙ e) in
        behind_same spec [] (cell_at a x) (k, cell adds spec b) same
        ∙ subst (λ n. (n, merge spec (cell adds spec (rows_at number a n)) (cell adds spec b)) ∷ [] ≡ cell_at c n ∷ []) (sym same) (ap (λ w. (k, w) ∷ []) merged_cell)
    put_there (x ∷ y ∷ l) rises below e =
        let less : x < k = lesser x y k rises.0.0 below.1.0 in
        let rest : among (y ∷ l) k ≡ true = sym (ap (λ t. t || among (y ∷ l) k) (ne_eqb x k (apart_from x k less))) ∙ e in
        behind_first spec (cell_at a x) (cell_at a y) (map (cell_at a) l) (k, cell adds spec b)
        ∙ (ap (λ r. cell_at a x ∷ r) (put_there (y ∷ l) rises.1 below.1 rest)
        ∙ ap (λ r. r ∷ map (cell_at c) (y ∷ l)) (same_cell x (λ e. apart_from x k less (sym e))))
      where
        lesser : (x y k : ℕ) → x < y → y ≤ k → x < k
        lesser x y k p q = omega arith

        apart_from : (x k : ℕ) → x < k → x ≢ k
        apart_from x k p e = omega arith

    -- and else it comes behind them
    put_new : (l : List ℕ) → among l k ≡ false → rows_at number a k ≡ [] → put_behind spec (map (cell_at a) l) (k, cell adds spec b) ≡ map (cell_at c) (l ++ k ∷ [])
    put_new [] e none = behind_none spec (k, cell adds spec b) ∙ ap (λ x. x ∷ []) (new_cell none)
    put_new (x ∷ []) e none =
        let other : x ≢ k = λ s. false≢true (sym (or_parts (eqb x k) false e).0 ∙ eq-eqb x k s) in
        behind_other spec [] (cell_at a x) (k, cell adds spec b) other
        ∙ (ap (λ r. r ∷ (k, cell adds spec b) ∷ []) (same_cell x (λ s. other (sym s))) ∙ ap (λ p. cell_at c x ∷ p ∷ []) (new_cell none))
    put_new (x ∷ y ∷ l) e none =
        let parts = or_parts (eqb x k) (among (y ∷ l) k) e in
        let other : x ≢ k = λ s. false≢true (sym parts.0 ∙ eq-eqb x k s) in
        behind_first spec (cell_at a x) (cell_at a y) (map (cell_at a) l) (k, cell adds spec b)
        ∙ (ap (λ r. cell_at a x ∷ r) (put_new (y ∷ l) parts.1 none) ∙ ap (λ r. r ∷ map (cell_at c) (y ∷ l ++ k ∷ [])) (same_cell x (λ s. other (sym s))))

    among_both : (z : ℕ) → among (rising (map number c)) z ≡ (among (rising (map number a)) z || eqb k z)
    among_both z =
        let q : ℕ → Bool = λ y. eqb y z in
        any-rising q (map number c)
        ∙ (any-interleaved q (map number a) (map number b) (map number c) (Interleaves-map number a b c both)
        ∙ (ap (λ t. t || among (map number b) z) (sym (any-rising q (map number a)))
        ∙ ap (λ t. among (rising (map number a)) z || t) (only_among k z (map number b) (each-map (λ n. n ≡ k) number b own) (longer b some))))
      where
        longer : (b : List Row) → 0 < length b → 0 < length (map number b)
        longer [] h = absurd (omega arith)
        longer (x ∷ b) h = omega arith

    absorbed : (x e : Bool) → (e ≡ true → x ≡ true) → (x || e) ≡ x
    absorbed true e h = refl
    absorbed false true h = absurd (false≢true (h refl))
    absorbed false false h = refl

    -- the cells with one more
    pub put_one : AllByRecursion (λ r. number r ≤ k) a → put_behind spec (cells_by adds spec number a) (k, cell adds spec b) ≡ cells_by adds spec number c
    put_one below =
        let l = rising (map number a) in
        let rises = Rises-rising (map number a) in
        let within : AllByRecursion (λ n. n ≤ k) l = among_all (λ n. n ≤ k) l (λ x t. all_among (λ n. n ≤ k) (map number a) x (each-map (λ n. n ≤ k) number a below) (sym (any-rising (λ y. eqb y x) (map number a)) ∙ t)) in
        elim (cases_Bool (among l k)) [
          | inl there ↦
              let same : l ≡ rising (map number c) = same_rising l (rising (map number c)) rises (Rises-rising (map number c))
              (λ z. sym (among_both z ∙ absorbed (among l z) (eqb k z) (λ t. ap (λ n. among l n) (sym (eqb-true k z t)) ∙ there))) in
              put_there l rises within there ∙ ap (λ l. map (cell_at c) l) same
          | inr absent ↦
              let none : rows_at number a k ≡ [] = none_among number k a (sym (any-rising (λ y. eqb y k) (map number a)) ∙ absent) in
              let strictly : AllByRecursion (λ n. n < k) l = among_all (λ n. n < k) l (λ x t. below_it x k (all_among (λ n. n ≤ k) l x within t) (λ e. false≢true (sym absent ∙ (ap (λ n. among l n) (sym e) ∙ t)))) in
              let same : l ++ k ∷ [] ≡ rising (map number c) = same_rising (l ++ k ∷ []) (rising (map number c)) (Rises-snoc k l rises strictly) (Rises-rising (map number c))
              (λ z. list_any-append (λ y. eqb y z) l (k ∷ []) ∙ (ap (λ t. among l z || t) (or_none (eqb k z)) ∙ sym (among_both z))) in
              put_new l absent none ∙ ap (λ l. map (cell_at c) l) same
        ]
      where
        below_it : (x k : ℕ) → x ≤ k → x ≢ k → x < k
        below_it x k h d =
            elim (cases_order x k) [
              | inl e ↦ absurd (d e)
              | inr o ↦ elim o [
                | inl l ↦ l
                | inr g ↦ absurd (omega arith)
              ]
            ]
