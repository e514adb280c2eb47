-- Reading the answer that a cell stands for.
use Rattle.std.proofs.Common.{◌≡◌, ◌≢◌, ℕ, suc, ◌+◌, ◌-◌, ◌*◌, ◌<◌, ◌≤◌, Bool, true, false, cond, eqb, List, [], ◌∷◌, ◌++◌, length, map, take, drop, slice_index, get_or, Some, slice_get, refl, ap, sym, ◌∙◌, arith, IsTrue}
use Rattle.std.specs.List.{AllByRecursion}
use Rattle.std.proofs.lemmas.Bool.{cond-true, cond-false, eq-eqb, ne_eqb}
use Rattle.std.proofs.lemmas.List.{append-nil, append_assoc, drop-drop, drop_more, drop_all, take_all, length-drop, length-take-le, take-append-drop, map-append}
use Rattle.std.proofs.Math.Nat.{mul-le-mul_right}
use Rattle.spl_values.specs.Kinds.{is_kind, Fits}
use Rattle.spl_values.specs.Codes.{code_of, value_with}
use Rattle.spl_values.specs.Laws.{CodesDiffer}
use Rattle.spl_values.specs.Shapes.{ColumnParts}
use Rattle.spl_values.specs.declared.kinds.ColumnType.{ColumnType}
use Rattle.spl_values.specs.declared.values.Value.{Value}
use Rattle.cell_merge.specs.declared.entry.Entry.{Entry}
use Rattle.cell_merge.specs.declared.spec.CellItem.{CellItem}
use Rattle.cell_merge.specs.Entries.{entries_of}
use Rattle.cell_merge.specs.Cells.{item_width, items_width, block_width}
use Rattle.cell_merge.specs.TableRows.{kind_in, kind_or_numbers}
use Rattle.clear_sql.specs.declared.answer.TopRow.{TopRow}
use Rattle.clear_sql.specs.declared.answer.Outcome.{Outcome}
use Rattle.clear_sql.specs.declared.answer.Group.{Group}
use Rattle.clear_sql.specs.Clear.{value_in}
use Rattle.clear_sql.specs.CellAnswers.{IsCode, EntryReads, ItemReads, ItemsRead, BlocksRead, outcome_of, outcomes_of, results_of, label_group, groups_of}

-- ---- values from codes

-- the value that has a code is the one that the answer speaks of
pub only_value : CodesDiffer → (kind : ColumnType) (code : ℕ) (v : Value) → IsTrue (is_kind kind) → IsCode kind code → Fits kind v → code_of kind v ≡ code → v ≡ value_with kind code
only_value law kind code v typed is fits same = law kind v (value_with kind code) typed fits is.fits (same ∙ sym is.same)

kind_at : (cs : List ColumnParts) (i : ℕ) (c : ColumnParts) → slice_get cs i ≡ Some c → kind_in cs i ≡ c.kind
kind_at cs i c e = ap kind_or_numbers e

pub decoded : CodesDiffer → (cs : List ColumnParts) (i code : ℕ) (c : ColumnParts) (k : ColumnType) (v : Value) → slice_get cs i ≡ Some c → k ≡ c.kind → IsTrue (is_kind k) → IsCode (kind_in cs i) code
    → Fits k v → code_of k v ≡ code → v ≡ value_in cs i code
decoded law cs i code c k v here kind typed is fits same =
    let e : kind_in cs i ≡ k = kind_at cs i c here ∙ sym kind in
    let is' : IsCode k code = rw e at is in
    rw e (only_value law k code v typed is' fits same)

pub not_missing : (cs : List ColumnParts) (i code : ℕ) (c : ColumnParts) (k : ColumnType) → slice_get cs i ≡ Some c → k ≡ c.kind → IsCode (kind_in cs i) code
    → ((v : Value) → Fits k v → code_of k v ≢ code) → ⊥
not_missing cs i code c k here kind is none =
    let e : kind_in cs i ≡ k = kind_at cs i c here ∙ sym kind in
    let is' : IsCode k code = rw e at is in
    none (value_with k code) is'.fits is'.same

-- ---- entries

three_step : (t : Bool) (e : Entry) (b : List Entry) → cond t b (e ∷ b) ≡ cond t [] (e ∷ []) ++ b
three_step true e b = refl
three_step false e b = refl

-- the entries of three words and of those behind them
entries-behind : (a b : List ℕ) → length a ≡ 3 → entries_of (a ++ b) ≡ entries_of a ++ entries_of b
unfolding entries_of
entries-behind [] b h = absurd (omega arith)
entries-behind (x ∷ []) b h = absurd (omega arith)
entries-behind (x ∷ y ∷ []) b h = absurd (omega arith)
entries-behind (x ∷ y ∷ z ∷ []) b h = three_step (eqb x 0) (record { place = x; sort = y; show = z }) (entries_of b)
entries-behind (x ∷ y ∷ z ∷ w ∷ a) b h = absurd (omega arith)

pub entries-more : (ws : List ℕ) (i : ℕ) → 3 * i + 3 ≤ length ws
    → entries_of (drop (3 * i) ws) ≡ entries_of (take (3 * i + 3 - 3 * i) (drop (3 * i) ws)) ++ entries_of (drop (3 * (i + 1)) ws)
entries-more ws i h =
    let rest = drop (3 * i) ws in
    let width : 3 * i + 3 - 3 * i ≡ 3 = omega arith in
    let last : 3 * i + 3 ≡ 3 * (i + 1) = omega arith in
    let len : length (take 3 rest) ≡ 3 = length-take-le 3 rest (let e = length-drop (3 * i) ws in omega arith) in
    rw width
    (ap entries_of (sym (take-append-drop 3 rest))
    ∙ (entries-behind (take 3 rest) (drop 3 rest) len
    ∙ ap (λ l. entries_of (take 3 rest) ++ entries_of l) (drop-drop 3 (3 * i) ws ∙ ap (λ n. drop n ws) last)))

few-words : (ws : List ℕ) → length ws < 3 → entries_of ws ≡ []
unfolding entries_of
few-words [] h = refl
few-words (a ∷ []) h = refl
few-words (a ∷ b ∷ []) h = refl
few-words (a ∷ b ∷ c ∷ ws) h = absurd (omega arith)

pub entries-end : (ws : List ℕ) (i : ℕ) → length ws < 3 * i + 3 → entries_of (drop (3 * i) ws) ≡ []
entries-end ws i h = few-words (drop (3 * i) ws) (let e = length-drop (3 * i) ws in omega arith)

-- three words whose place is 0
pub no_entry : (ws : List ℕ) → length ws ≡ 3 → slice_index ws 0 ≡ 0 → entries_of ws ≡ []
unfolding entries_of
no_entry [] h e = absurd (omega arith)
no_entry (x ∷ []) h e = absurd (omega arith)
no_entry (x ∷ y ∷ []) h e = absurd (omega arith)
no_entry (x ∷ y ∷ z ∷ []) h e = let one : Entry = record { place = x; sort = y; show = z } in cond-true (eqb x 0) [] (one ∷ []) (eq-eqb x 0 e)
no_entry (x ∷ y ∷ z ∷ w ∷ ws) h e = absurd (omega arith)

-- the entry that three words hold
abbrev pub entry_of : List ℕ → Entry
entry_of ws = record { place = slice_index ws 0; sort = slice_index ws 1; show = slice_index ws 2 }

pub one_entry : (ws : List ℕ) → length ws ≡ 3 → slice_index ws 0 ≢ 0 → entries_of ws ≡ entry_of ws ∷ []
unfolding entries_of
one_entry [] h e = absurd (omega arith)
one_entry (x ∷ []) h e = absurd (omega arith)
one_entry (x ∷ y ∷ []) h e = absurd (omega arith)
one_entry (x ∷ y ∷ z ∷ []) h e = let one : Entry = record { place = x; sort = y; show = z } in cond-false (eqb x 0) [] (one ∷ []) (ne_eqb x 0 e)
one_entry (x ∷ y ∷ z ∷ w ∷ ws) h e = absurd (omega arith)

pub one_entry-reads : (columns : List ColumnParts) (s h : ℕ) (ws : List ℕ) → length ws ≡ 3 → slice_index ws 0 ≢ 0 → AllByRecursion (EntryReads columns s h) (entries_of ws) → EntryReads columns s h (entry_of ws)
one_entry-reads columns s h ws len some reads = (rw (one_entry ws len some) at reads).0

each-split : {A : Type 0} (P : A → Type 0) (a b : List A) → AllByRecursion P (a ++ b) → AllByRecursion P a × AllByRecursion P b
each-split P [] b h = (tt, h)
each-split P (x ∷ a) b h = let r = each-split P a b h.1 in ((h.0, r.0), r.1)

pub entries-parts : (columns : List ColumnParts) (s h : ℕ) (ws : List ℕ) (i : ℕ) → 3 * i + 3 ≤ length ws → AllByRecursion (EntryReads columns s h) (entries_of (drop (3 * i) ws))
    → AllByRecursion (EntryReads columns s h) (entries_of (take (3 * i + 3 - 3 * i) (drop (3 * i) ws))) × AllByRecursion (EntryReads columns s h) (entries_of (drop (3 * (i + 1)) ws))
entries-parts columns s h ws i room reads =
    each-split (EntryReads columns s h) (entries_of (take (3 * i + 3 - 3 * i) (drop (3 * i) ws))) (entries_of (drop (3 * (i + 1)) ws)) (rw (entries-more ws i room) at reads)

pub rows-more : (f : Entry → TopRow) (ws : List ℕ) (i : ℕ) (all old new : List TopRow) → 3 * i + 3 ≤ length ws
    → all ≡ old ++ map f (entries_of (drop (3 * i) ws)) → new ≡ old ++ map f (entries_of (take (3 * i + 3 - 3 * i) (drop (3 * i) ws)))
    → all ≡ new ++ map f (entries_of (drop (3 * (i + 1)) ws))
rows-more f ws i all old new room e is-new =
    let E = entries_of (take (3 * i + 3 - 3 * i) (drop (3 * i) ws)) in
    let R = entries_of (drop (3 * (i + 1)) ws) in
    e ∙ (ap (λ l. old ++ map f l) (entries-more ws i room)
    ∙ (ap (λ l. old ++ l) (map-append f E R)
    ∙ (sym (append_assoc old (map f E) (map f R)) ∙ ap (λ l. l ++ map f R) (sym is-new))))

pub rows-end : (f : Entry → TopRow) (ws : List ℕ) (i : ℕ) (all done : List TopRow) → length ws < 3 * i + 3
    → all ≡ done ++ map f (entries_of (drop (3 * i) ws)) → done ≡ all
rows-end f ws i all done h e = sym (rw (entries-end ws i h) at e ∙ append-nil done)

-- the length of a part
pub part_length : (l : List ℕ) (at w n : ℕ) → at + w ≤ length l → n ≡ at + w → length (take (n - at) (drop at l)) ≡ w
part_length l at w n room e =
    let width : n - at ≡ w = omega arith in
    rw width (length-take-le w (drop at l) (let d = length-drop at l in omega arith))

-- ---- items

pub items-rest : (is : List CellItem) (i : ℕ) (d : CellItem) → i < length is → drop i is ≡ get_or is i d ∷ drop (i + 1) is
items-rest is i d h = drop_more is i d h

pub width-rest : (is : List CellItem) (i : ℕ) (d : CellItem) → i < length is → items_width (drop i is) ≡ item_width (get_or is i d) + items_width (drop (i + 1) is)
unfolding items_width
width-rest is i d h = ap (λ l. items_width l) (drop_more is i d h)

pub width-none : items_width [] ≡ 0
unfolding items_width
width-none = refl

-- what is left of a block after one more item
pub record ItemStep (columns : List ColumnParts) (is : List CellItem) (i : ℕ) (d : CellItem) (count at end : ℕ) (block : List ℕ) (all : List Outcome) (done : List Outcome) : Type 0 where
  pub reads : ItemReads columns (get_or is i d) (take (end - at) (drop at block))
  pub rest : ItemsRead columns (drop (i + 1) is) (drop end block)
  pub more : (o : Outcome) → o ≡ outcome_of columns (get_or is i d) count (take (end - at) (drop at block)) → all ≡ (done ++ o ∷ []) ++ outcomes_of columns (drop (i + 1) is) count (drop end block)

pub item-step : (columns : List ColumnParts) (is : List CellItem) (i : ℕ) (d : CellItem) (count at end : ℕ) (block : List ℕ) (all done : List Outcome) → i < length is
    → end ≡ at + item_width (get_or is i d) → ItemsRead columns (drop i is) (drop at block)
    → all ≡ done ++ outcomes_of columns (drop i is) count (drop at block) → ItemStep columns is i d count at end block all done
unfolding ItemsRead outcomes_of
item-step columns is i d count at end block all done h is-end reads e =
    let t = get_or is i d in
    let w = item_width t in
    let width : end - at ≡ w = omega arith in
    let next : drop w (drop at block) ≡ drop end block = drop-drop w at block ∙ ap (λ n. drop n block) (let s : at + w ≡ end = omega arith in s) in
    let reads' = rw (drop_more is i d h) at reads in
    let e' = rw (drop_more is i d h) at e in
    record {
      reads = rw width reads'.0;
      rest = rw next at reads'.1;
      more = λ o is-o.
          e' ∙ (ap (λ l. done ++ outcome_of columns t count (take w (drop at block)) ∷ outcomes_of columns (drop (i + 1) is) count l) next
          ∙ (ap (λ x. done ++ x ∷ outcomes_of columns (drop (i + 1) is) count (drop end block)) (sym (is-o ∙ ap (λ n. outcome_of columns t count (take n (drop at block))) width))
          ∙ sym (append_assoc done (o ∷ []) (outcomes_of columns (drop (i + 1) is) count (drop end block)))));
    }

pub items-end : (columns : List ColumnParts) (is : List CellItem) (i count at : ℕ) (block : List ℕ) (all done : List Outcome) → length is ≤ i
    → all ≡ done ++ outcomes_of columns (drop i is) count (drop at block) → done ≡ all
unfolding outcomes_of
items-end columns is i count at block all done h e = sym (rw (drop_all i is h) at e ∙ append-nil done)

-- ---- blocks

pub record BlockStep (columns : List ColumnParts) (is : List CellItem) (l labels w : ℕ) (cell : List ℕ) (all done : List Group) : Type 0 where
  pub reads : ItemsRead columns is (drop 1 (take (l * w + w - l * w) (drop (l * w) cell)))
  pub rest : BlocksRead columns is (labels - (l + 1)) (drop ((l + 1) * w) cell)
  pub more : all ≡ (done ++ label_group columns is l (take (l * w + w - l * w) (drop (l * w) cell))) ++ groups_of columns is (l + 1) (labels - (l + 1)) (drop ((l + 1) * w) cell)

pub block-step : (columns : List ColumnParts) (is : List CellItem) (l labels w : ℕ) (cell : List ℕ) (all done : List Group) → l < labels → w ≡ block_width is
    → BlocksRead columns is (labels - l) (drop (l * w) cell)
    → all ≡ done ++ groups_of columns is l (labels - l) (drop (l * w) cell) → BlockStep columns is l labels w cell all done
unfolding BlocksRead groups_of
block-step columns is l labels w cell all done h is-w reads e =
    let W = block_width is in
    let n : ℕ = labels - (l + 1) in
    let count : labels - l ≡ suc n = omega arith in
    let width : l * w + w - l * w ≡ W = omega arith in
    let next : drop W (drop (l * w) cell) ≡ drop ((l + 1) * w) cell = drop-drop W (l * w) cell ∙ ap (λ k. drop k cell) (let s : l * w + W ≡ (l + 1) * w = let f : (l + 1) * w ≡ l * w + w = omega arith in omega arith in s) in
    let reads' = rw count at reads in
    let e' = rw count at e in
    record {
      reads = rw width reads'.0;
      rest = rw next at reads'.1;
      more =
          e' ∙ (ap (λ k. done ++ (label_group columns is l (take W (drop (l * w) cell)) ++ groups_of columns is (l + 1) n k)) next
          ∙ (ap (λ k. done ++ (label_group columns is l (take k (drop (l * w) cell)) ++ groups_of columns is (l + 1) n (drop ((l + 1) * w) cell))) (sym width)
          ∙ sym (append_assoc done (label_group columns is l (take (l * w + w - l * w) (drop (l * w) cell))) (groups_of columns is (l + 1) n (drop ((l + 1) * w) cell)))));
    }

pub first-blocks : (columns : List ColumnParts) (is : List CellItem) (labels w : ℕ) (cell : List ℕ) → BlocksRead columns is labels cell → BlocksRead columns is (labels - 0) (drop (0 * w) cell)
first-blocks columns is labels w cell reads =
    let a : labels - 0 ≡ labels = omega arith in
    let b : 0 * w ≡ 0 = omega arith in
    rw (a, b) reads

pub first-groups : (columns : List ColumnParts) (is : List CellItem) (labels w : ℕ) (cell : List ℕ) (none : List Group) → none ≡ [] → groups_of columns is 0 labels cell ≡ none ++ groups_of columns is 0 (labels - 0) (drop (0 * w) cell)
first-groups columns is labels w cell none e =
    let a : labels - 0 ≡ labels = omega arith in
    let b : 0 * w ≡ 0 = omega arith in
    rw (a, b, e) refl

pub no_group : (columns : List ColumnParts) (is : List CellItem) (label : ℕ) (block : List ℕ) → slice_index block 0 ≡ 0 → label_group columns is label block ≡ []
no_group columns is label block e = let g : Group = record { label = Some label; results = results_of columns is block } in cond-true (eqb (slice_index block 0) 0) [] (g ∷ []) (eq-eqb (slice_index block 0) 0 e)

pub some_group : (columns : List ColumnParts) (is : List CellItem) (label : ℕ) (block : List ℕ) → slice_index block 0 ≢ 0 → label_group columns is label block ≡ record { label = Some label; results = results_of columns is block } ∷ []
some_group columns is label block e = let g : Group = record { label = Some label; results = results_of columns is block } in cond-false (eqb (slice_index block 0) 0) [] (g ∷ []) (ne_eqb (slice_index block 0) 0 e)

pub block_small : (labels w n : ℕ) → 0 < labels → n ≡ labels * w → w ≤ n
block_small labels w n some e = let f : 1 * w ≤ labels * w = mul-le-mul_right w (omega arith) in omega arith

pub no_labels : (columns : List ColumnParts) (is : List CellItem) (labels : ℕ) (cell : List ℕ) (none : List Group) → labels ≡ 0 → none ≡ [] → none ≡ groups_of columns is 0 labels cell
unfolding groups_of
no_labels columns is labels cell none e f = rw e f

pub blocks-end : (columns : List ColumnParts) (is : List CellItem) (l labels w : ℕ) (cell : List ℕ) (all done : List Group) → labels ≤ l
    → all ≡ done ++ groups_of columns is l (labels - l) (drop (l * w) cell) → done ≡ all
unfolding groups_of
blocks-end columns is l labels w cell all done h e = let none : labels - l ≡ 0 = omega arith in sym (rw none at e ∙ append-nil done)

pub one-block-reads : (columns : List ColumnParts) (is : List CellItem) (cell : List ℕ) → length cell ≡ block_width is → BlocksRead columns is 1 cell → ItemsRead columns is (drop 1 cell)
unfolding BlocksRead
one-block-reads columns is cell len reads = rw (take_all (block_width is) cell (omega arith)) at reads.0
