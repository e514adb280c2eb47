-- The runs of rows that are put behind one another, in their keys and cells.
use Rattle.std.proofs.Common.{◌≡◌, ◌≢◌, ℕ, ◌+◌, ◌-◌, ◌<◌, ◌≤◌, true, false, eqb, Option, Some, None, ◌⊎◌, inl, inr, List, [], ◌∷◌, ◌++◌, length, map, take, drop, get_or, refl, ap, sym, subst, ◌∙◌, arith, length-append}
use Rattle.std.specs.List.{AllByRecursion, slice_get}
use Rattle.std.specs.Option.{option_eq}
use Rattle.std.proofs.lemmas.Bool.{eq-eqb, eqb-true, false≢true}
use Rattle.std.proofs.lemmas.List.{append-nil, append_assoc, drop_all, drop_at, get_or_at, length-drop, length-take-le, map-append, take_all, take_at, take_more}
use Rattle.std.proofs.lemmas.Option.{slice_get-get_or}
use Rattle.std.proofs.lemmas.Grind.{fold-append}
use borrow.Rule.Slice.PartMut.{put_mid}
use Rattle.spl_values.specs.Tables.{TableParts}
use Rattle.cell_merge.specs.declared.spec.CellSpec.{CellSpec}
use Rattle.cell_merge.specs.Cells.{blocks, cell_width, merge}
use Rattle.cell_merge.proofs.Blocks.{length-merge_blocks}
use Rattle.query_reader.specs.declared.checked.Checked.{Checked}
use Rattle.cell_runs.specs.CellsBy.{ArePairs}
use Rattle.cell_runs.specs.Runs.{put_behind, runs}
use Rattle.cell_runs.proofs.Behind.{behind_none, behind_other, behind_same}
use Rattle.cell_runs.proofs.Moving.{wide-snoc}
use Rattle.keyed_rows.proofs.Pairs.{cells_in, cells-snoc, keys_of, keys-snoc, wide-front}
use Rattle.keyed_rows.specs.KeyedRows.{row_pair}
use Rattle.keyed_rows.specs.declared.rows.KeyedRow.{KeyedRow}

-- ---- the last of some pairs

-- the key of the last pair
abbrev pub last_key : List (ℕ × List ℕ) → Option ℕ
last_key [] = None
last_key (q ∷ []) = Some q.0
last_key (q ∷ r ∷ l) = last_key (r ∷ l)

-- some pairs and one more behind them
abbrev Ended : List (ℕ × List ℕ) → Type 0
Ended l = (before : List (ℕ × List ℕ)) × (q : ℕ × List ℕ) × (l ≡ before ++ q ∷ [])

none_or_ended : (l : List (ℕ × List ℕ)) → (l ≡ []) ⊎ Ended l
none_or_ended [] = inl refl
none_or_ended (x ∷ l) =
    elim (none_or_ended l) [
      | inl e ↦ inr ([], x, ap (λ r. x ∷ r) e)
      | inr s ↦ inr (x ∷ s.0, s.1, ap (λ r. x ∷ r) s.2)
    ]

last_snoc : (l : List (ℕ × List ℕ)) (q : ℕ × List ℕ) → last_key (l ++ q ∷ []) ≡ Some q.0
last_snoc [] q = refl
last_snoc (x ∷ []) q = refl
last_snoc (x ∷ y ∷ l) q = last_snoc (y ∷ l) q

Some-injective : (m n : ℕ) → Some m ≡ Some n → m ≡ n
Some-injective m n e = cc

none_is_some : (n : ℕ) → None ≡ Some n → ⊥
none_is_some n e = cc

pub option_same : (o : Option ℕ) (k : ℕ) → option_eq eqb o (Some k) ≡ true → o ≡ Some k
option_same None k e = absurd (false≢true e)
option_same (Some n) k e = ap Some (eqb-true n k e)

pub option_other : (o : Option ℕ) (k : ℕ) → option_eq eqb o (Some k) ≡ false → o ≢ Some k
option_other o k e same = false≢true (sym e ∙ (ap (λ r. option_eq eqb r (Some k)) same ∙ eq-eqb k k refl))

-- where the last pair has a key, it is the last
ended_by : (l : List (ℕ × List ℕ)) (k : ℕ) → last_key l ≡ Some k → (before : List (ℕ × List ℕ)) × (q : ℕ × List ℕ) × (l ≡ before ++ q ∷ []) × (q.0 ≡ k)
ended_by l k e =
    elim (none_or_ended l) [
      | inl n ↦ absurd (none_is_some k (sym (ap last_key n) ∙ e))
      | inr s ↦ (s.0, s.1, s.2, Some-injective s.1.0 k (sym (ap last_key s.2 ∙ last_snoc s.0 s.1) ∙ e))
    ]

module _ (spec : CellSpec) (l : List (ℕ × List ℕ)) (p : ℕ × List ℕ) where
  pub put_other : last_key l ≢ Some p.0 → put_behind spec l p ≡ l ++ p ∷ []
  put_other differ =
      elim (none_or_ended l) [
        | inl n ↦ rw n (behind_none spec p)
        | inr s ↦ ap (λ d. put_behind spec d p) s.2
            ∙ (behind_other spec s.0 s.1 p (λ e. differ (ap last_key s.2 ∙ (last_snoc s.0 s.1 ∙ ap Some e)))
            ∙ (sym (append_assoc s.0 (s.1 ∷ []) (p ∷ [])) ∙ ap (λ d. d ++ p ∷ []) (sym s.2)))
      ]

  pub count_other : last_key l ≢ Some p.0 → (length (put_behind spec l p) ≡ length l + 1) × (last_key (put_behind spec l p) ≡ Some p.0)
  count_other differ = let e = put_other differ in (ap (λ d. length d) e ∙ length-append l (p ∷ []), ap last_key e ∙ last_snoc l p)

  pub count_same : last_key l ≡ Some p.0 → (length (put_behind spec l p) ≡ length l) × (last_key (put_behind spec l p) ≡ Some p.0)
  count_same same =
      let s = ended_by l p.0 same in
      let q : ℕ × List ℕ = (s.1.0, merge spec s.1.1 p.1) in
      let e : put_behind spec l p ≡ s.0 ++ q ∷ [] = ap (λ d. put_behind spec d p) s.2 ∙ behind_same spec s.0 s.1 p s.3 in
      (ap (λ d. length d) e ∙ (length-append s.0 (q ∷ []) ∙ sym (ap (λ d. length d) s.2 ∙ length-append s.0 (s.1 ∷ []))), ap last_key e ∙ (last_snoc s.0 q ∙ ap Some s.3))

-- ---- their keys and cells

last_item : (xs : List ℕ) (x : ℕ) → slice_get (xs ++ x ∷ []) (length (xs ++ x ∷ []) - 1) ≡ Some x
last_item xs x =
    let long = length-append xs (x ∷ []) in
    let e : length (xs ++ x ∷ []) - 1 ≡ length xs = omega arith in
    ap (λ i. slice_get (xs ++ x ∷ []) i) e ∙ (slice_get-get_or (xs ++ x ∷ []) (length xs) 0 (omega arith) ∙ ap Some (get_or_at xs x [] 0 (length xs) refl))

-- the last of the keys is that of the last pair
pub last_of_keys : (l : List (ℕ × List ℕ)) (keys : List ℕ) → keys ≡ keys_of l → slice_get keys (length keys - 1) ≡ last_key l
last_of_keys l keys e =
    elim (none_or_ended l) [
      | inl n ↦ rw (e, n) refl
      | inr s ↦
          let is : keys ≡ keys_of s.0 ++ s.1.0 ∷ [] = e ∙ (ap keys_of s.2 ∙ keys-snoc s.0 s.1) in
          ap (λ k. slice_get k (length k - 1)) is ∙ (last_item (keys_of s.0) s.1.0 ∙ sym (ap last_key s.2 ∙ last_snoc s.0 s.1))
    ]

module _ (spec : CellSpec) (w : ℕ) (keys cells : List ℕ) (done : List (ℕ × List ℕ)) (p : ℕ × List ℕ) (are : ArePairs w done keys cells) (wide : length p.1 ≡ w) where
  -- a pair with another key is put behind
  pub pair_behind : slice_get keys (length keys - 1) ≢ Some p.0 → ArePairs w (put_behind spec done p) (keys ++ p.0 ∷ []) (cells ++ p.1)
  pair_behind differ =
      subst (λ l. ArePairs w l (keys ++ p.0 ∷ []) (cells ++ p.1)) (sym (put_other spec done p (λ e. differ (last_of_keys done keys are.each_key ∙ e)))) (record {
        each_key = ap (λ l. l ++ p.0 ∷ []) are.each_key ∙ sym (keys-snoc done p);
        each_cell = ap (λ l. l ++ p.1) are.each_cell ∙ sym (cells-snoc done p);
        wide = wide-snoc w done p are.wide wide;
      })

  -- a cell with the last key is merged into the last cell
  pub pair_merged : (at : ℕ) → w ≡ cell_width spec → slice_get keys (length keys - 1) ≡ Some p.0 → at ≡ length cells - w → ArePairs w (put_behind spec done p) keys (take at cells ++ merge spec (drop at cells) p.1)
  pair_merged at is-w same start =
      let s = ended_by done p.0 (sym (last_of_keys done keys are.each_key) ∙ same) in
      let before = s.0 in
      let q = s.1 in
      let merged = merge spec q.1 p.1 in
      let parts = wide-front w before q (subst (AllByRecursion (λ q. length q.1 ≡ w)) s.2 are.wide) in
      let both : cells ≡ cells_in before ++ q.1 = are.each_cell ∙ (ap cells_in s.2 ∙ cells-snoc before q) in
      let long : length cells ≡ length (cells_in before) + length q.1 = ap (λ l. length l) both ∙ length-append (cells_in before) q.1 in
      let here : length (cells_in before) ≡ at = let e = parts.1 in omega arith in
      let front : take at cells ≡ cells_in before = ap (λ l. take at l) both ∙ take_at (cells_in before) q.1 at here in
      let last : drop at cells ≡ q.1 = ap (λ l. drop at l) both ∙ drop_at (cells_in before) q.1 at here in
      let is : take at cells ++ merge spec (drop at cells) p.1 ≡ cells_in (before ++ (q.0, merged) ∷ []) = ap (λ l. l ++ merge spec (drop at cells) p.1) front ∙ (ap (λ l. cells_in before ++ merge spec l p.1) last ∙ sym (cells-snoc before (q.0, merged))) in
      let put : put_behind spec done p ≡ before ++ (q.0, merged) ∷ [] = ap (λ d. put_behind spec d p) s.2 ∙ behind_same spec before q p s.3 in
      subst (λ l. ArePairs w l keys (take at cells ++ merge spec (drop at cells) p.1)) (sym put) (record {
        each_key = are.each_key ∙ (ap keys_of s.2 ∙ (keys-snoc before q ∙ sym (keys-snoc before (q.0, merged))));
        each_cell = is;
        wide = wide-snoc w before (q.0, merged) parts.0 (length-merge_blocks (blocks spec.group spec.labels) spec.items q.1 p.1 ∙ sym is-w);
      })

  last_fits : slice_get keys (length keys - 1) ≡ Some p.0 → w ≤ length cells
  last_fits same =
      let s = ended_by done p.0 (sym (last_of_keys done keys are.each_key) ∙ same) in
      let both : cells ≡ cells_in s.0 ++ s.1.1 = are.each_cell ∙ (ap cells_in s.2 ∙ cells-snoc s.0 s.1) in
      let long = ap (λ l. length l) both ∙ length-append (cells_in s.0) s.1.1 in
      let own = (wide-front w s.0 s.1 (subst (AllByRecursion (λ q. length q.1 ≡ w)) s.2 are.wide)).1 in
      omega arith

  -- so it is where the merged cell is written over the last words
  pub merged_last : (at n : ℕ) (new : List ℕ) → w ≡ cell_width spec → slice_get keys (length keys - 1) ≡ Some p.0 → at ≡ length cells - w → n ≡ length cells
      → new ≡ merge spec (take (length cells - at) (drop at cells)) p.1
      → ArePairs w (put_behind spec done p) keys (take n (put_mid at (length cells - at) cells new ++ drop (length (put_mid at (length cells - at) cells new)) cells))
  merged_last at n new is-w same start end merged =
      let fits = last_fits same in
      let rest : length (drop at cells) ≡ length cells - at = length-drop at cells in
      let is : new ≡ merge spec (drop at cells) p.1 = merged ∙ ap (λ l. merge spec l p.1) (take_all (length cells - at) (drop at cells) (omega arith)) in
      let own : length new ≡ w = ap (λ l. length l) is ∙ (length-merge_blocks (blocks spec.group spec.labels) spec.items (drop at cells) p.1 ∙ sym is-w) in
      let past : drop (length cells - at) (drop at cells) ≡ [] = drop_all (length cells - at) (drop at cells) (omega arith) in
      let all : put_mid at (length cells - at) cells new ≡ take at cells ++ new = ap (λ l. take at cells ++ (new ++ l)) past ∙ ap (λ l. take at cells ++ l) (append-nil new) in
      let long : length (take at cells ++ new) ≡ n = length-append (take at cells) new ∙ (let e = length-take-le at cells (omega arith) in omega arith) in
      let whole : take n (put_mid at (length cells - at) cells new ++ drop (length (put_mid at (length cells - at) cells new)) cells) ≡ take at cells ++ merge spec (drop at cells) p.1 =
      ap (λ l. take n (l ++ drop (length l) cells)) all
      ∙ (take_at (take at cells ++ new) (drop (length (take at cells ++ new)) cells) n long ∙ ap (λ l. take at cells ++ l) is) in
      subst (λ l. ArePairs w (put_behind spec done p) keys l) (sym whole) (pair_merged at is-w same start)

-- ---- a row more

pub runs_more : (checked : Checked) (t : TableParts) (rows : List KeyedRow) (i : ℕ) (d : KeyedRow) → i < length rows
    → runs checked.spec (map (row_pair checked t) (take (i + 1) rows)) ≡ put_behind checked.spec (runs checked.spec (map (row_pair checked t) (take i rows))) (row_pair checked t (get_or rows i d))
runs_more checked t rows i d within =
    ap (λ l. runs checked.spec (map (row_pair checked t) l)) (take_more rows i d within)
    ∙ (ap (λ l. runs checked.spec l) (map-append (row_pair checked t) (take i rows) (get_or rows i d ∷ []))
    ∙ fold-append (put_behind checked.spec) [] (map (row_pair checked t) (take i rows)) (row_pair checked t (get_or rows i d) ∷ []))

module _ (checked : Checked) (t : TableParts) (rows : List KeyedRow) (i : ℕ) (d : KeyedRow) (within : i < length rows) where
  abbrev runs_to : ℕ → List (ℕ × List ℕ)
  runs_to n = runs checked.spec (map (row_pair checked t) (take n rows))

  -- a row with another key than the last begins a run
  pub row_other : (count : ℕ) (last : Option ℕ) → count ≡ length (runs_to i) → last ≡ last_key (runs_to i) → last ≢ Some (get_or rows i d).key
      → (count + 1 ≡ length (runs_to (i + 1))) × (Some (get_or rows i d).key ≡ last_key (runs_to (i + 1)))
  row_other count last counted is differ =
      let more = runs_more checked t rows i d within in
      let next = count_other checked.spec (runs_to i) (row_pair checked t (get_or rows i d)) (λ e. differ (is ∙ e)) in
      (ap (λ n. n + 1) counted ∙ sym (ap (λ l. length l) more ∙ next.0), sym (ap last_key more ∙ next.1))

  -- and one with the last key none
  pub row_same : (count : ℕ) (last : Option ℕ) → count ≡ length (runs_to i) → last ≡ last_key (runs_to i) → last ≡ Some (get_or rows i d).key
      → (count ≡ length (runs_to (i + 1))) × (Some (get_or rows i d).key ≡ last_key (runs_to (i + 1)))
  row_same count last counted is same =
      let more = runs_more checked t rows i d within in
      let next = count_same checked.spec (runs_to i) (row_pair checked t (get_or rows i d)) (sym is ∙ same) in
      (counted ∙ sym (ap (λ l. length l) more ∙ next.0), sym (ap last_key more ∙ next.1))
