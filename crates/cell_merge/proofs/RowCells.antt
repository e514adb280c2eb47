-- The cell of one row.
use Rattle.std.proofs.Common.{◌≡◌, ◌≢◌, ℕ, zero, suc, ◌+◌, ◌-◌, ◌*◌, ◌^◌, ◌<◌, ◌≤◌, cond, eqb, List, [], ◌∷◌, ◌++◌, length, map, take, drop, replicate, slice_index, slice_get, get_or, set, All, Option, None, Some, refl, ap, sym, ◌∙◌, arith, add-one, IsTrue}
use Rattle.std.specs.List.{AllByRecursion, flat_map, range_with_len}
use Rattle.std.proofs.Math.Nat.{pow-le-pow_right, add-mul, mul-le-mul_right}
use Rattle.std.proofs.lemmas.Nat.{pow_pos}
use Rattle.std.proofs.lemmas.Bool.{cond-true, cond-false, ne_eqb}
use Rattle.std.proofs.lemmas.Bool.Decides.{nat_tests}
use Rattle.std.proofs.lemmas.List.{append-nil, append_assoc, take-replicate, drop-replicate, replicate-append-replicate, length-replicate, take_all, drop_all}
use Rattle.std.proofs.lemmas.List.Elements.{All-head, All-tail}
use Rattle.std.proofs.lemmas.Option.{slice_get-get_or}
use borrow.Rule.Slice.PartMut.{put_mid}
use Rattle.spl_values.specs.Kinds.{is_kind, bits_of, Fits}
use Rattle.spl_values.specs.Codes.{code_of}
use Rattle.spl_values.specs.Laws.{CodesAreBelow}
use Rattle.spl_values.specs.Shapes.{ColumnParts, IsColumn}
use Rattle.spl_values.specs.Tables.{TableParts, IsTable, column_bits, value_at}
use Rattle.spl_values.specs.declared.kinds.ColumnType.{ColumnType}
use Rattle.spl_values.specs.declared.kinds.ColumnType.TheVariants.{Uint, Text, Enum}
use Rattle.spl_values.specs.declared.values.Value.{Value}
use Rattle.spl_values.specs.declared.values.Value.TheVariants as value
use Rattle.cell_merge.specs.declared.spec.CellItem.{CellItem}
use Rattle.cell_merge.specs.declared.entry.Entry.{Entry}
use Rattle.cell_merge.specs.Rows.{Row, Apart, code}
use Rattle.cell_merge.specs.Entries.{insertion, ordered, in_order, words_of, entry}
use Rattle.cell_merge.specs.Triples.{with_entry}
use Rattle.cell_merge.specs.Cells.{Addends, item_width, items_width, item_words, items_words, block, block_width, greatest, least, with_label}
use Rattle.cell_merge.specs.TableRows.{HasLabels, IsNumbers, codes_of, kind_in, kind_or_numbers, row_in, rows_of}
use Rattle.cell_merge.proofs.Labels.{length-items_words}
use Rattle.cell_merge.proofs.All.{no_words, no_block}
use Rattle.cell_merge.proofs.Blocks.{items_width-room, part_of_done, more_done}

-- ---- codes of a row

code-at : (cs : List ColumnParts) (vs : List Value) (i : ℕ) (c : ColumnParts) (v : Value) → slice_get cs i ≡ Some c → slice_get vs i ≡ Some v → slice_index (codes_of cs vs) i ≡ code_of c.kind v
unfolding codes_of
code-at [] vs i c v e f = absurd cc
code-at (d ∷ cs) [] i c v e f = absurd cc
code-at (d ∷ cs) (w ∷ vs) zero c v e f = let one : d ≡ c = cc in let two : w ≡ v = cc in rw (one, two) refl
code-at (d ∷ cs) (w ∷ vs) (suc i) c v e f = code-at cs vs i c v e f

bits-at : (cs : List ColumnParts) (i : ℕ) (c : ColumnParts) → slice_get cs i ≡ Some c → column_bits cs i ≡ bits_of c.kind
unfolding column_bits
bits-at [] i c e = absurd cc
bits-at (d ∷ cs) zero c e = let one : d ≡ c = cc in rw one refl
bits-at (d ∷ cs) (suc i) c e = bits-at cs i c e

pub code_in_row : (t : TableParts) (row column : ℕ) (c : ColumnParts) (v : Value) → IsTable t → row < t.shape.rows
    → slice_get t.shape.schema.columns column ≡ Some c → value_at t.rows row column ≡ Some v → code column (row_in t row) ≡ code_of c.kind v
code_in_row t row column c v table in_row column_is value_is =
    let count : length t.rows ≡ t.shape.rows = table.count in
    let inside : row < length t.rows = omega arith in
    let whole : slice_get t.rows row ≡ Some (get_or t.rows row []) = slice_get-get_or t.rows row [] inside in
    code-at t.shape.schema.columns (get_or t.rows row []) column c v column_is (rw whole at value_is)

pub code_below : CodesAreBelow → (cs : List ColumnParts) (i : ℕ) (c : ColumnParts) (v : Value) (n : ℕ) → slice_get cs i ≡ Some c → IsColumn c → Fits c.kind v → column_bits cs i ≤ 64
    → n ≡ code_of c.kind v → n < 2 ^ 64
code_below law cs i c v n column_is typed fits few is =
    let below : code_of c.kind v < 2 ^ bits_of c.kind = law c.kind v typed.typed fits in
    let bits : column_bits cs i ≡ bits_of c.kind = bits-at cs i c column_is in
    let small : bits_of c.kind ≤ 64 = omega arith in
    let more : 2 ^ bits_of c.kind ≤ 2 ^ 64 = pow-le-pow_right (pow_pos 1) small in
    omega arith

number_bits : (k : ColumnType) → IsTrue (is_kind k) → IsNumbers k → bits_of k ≤ 64
number_bits (Uint b) typed n = grind (arith, nat_tests)
number_bits (Text k) typed n = absurd n
number_bits (Enum labels) typed n = absurd n

pub numbers_are_words : (cs : List ColumnParts) (i : ℕ) → All IsColumn cs → i < length cs → IsNumbers (kind_in cs i) → column_bits cs i ≤ 64
unfolding column_bits
numbers_are_words [] i typed h n = absurd (omega arith)
numbers_are_words (c ∷ cs) zero typed h n = number_bits c.kind (All-head IsColumn c cs typed).typed n
numbers_are_words (c ∷ cs) (suc i) typed h n = numbers_are_words cs i (All-tail IsColumn c cs typed) (omega arith) n

label_of_kind : (k : ColumnType) (labels place : ℕ) → HasLabels labels k → code_of k (value.Label place) ≡ place
label_of_kind (Uint b) labels place h = absurd h
label_of_kind (Text n) labels place h = absurd h
label_of_kind (Enum names) labels place h = refl

label_by : (t : TableParts) (row column place labels : ℕ) (o : Option ColumnParts) → IsTable t → row < t.shape.rows → value_at t.rows row column ≡ Some (value.Label place)
    → slice_get t.shape.schema.columns column ≡ o → HasLabels labels (kind_or_numbers o) → place ≡ code column (row_in t row)
label_by t row column place labels None table in_row value_is column_is h = absurd h
label_by t row column place labels (Some c) table in_row value_is column_is h =
    sym (code_in_row t row column c (value.Label place) table in_row column_is value_is ∙ label_of_kind c.kind labels place h)

pub label_in_row : (t : TableParts) (row column place labels : ℕ) → IsTable t → row < t.shape.rows → value_at t.rows row column ≡ Some (value.Label place)
    → HasLabels labels (kind_in t.shape.schema.columns column) → place ≡ code column (row_in t row)
label_in_row t row column place labels table in_row value_is h = label_by t row column place labels (slice_get t.shape.schema.columns column) table in_row value_is refl h

-- ---- the rows of a table

numbers_above : (t : TableParts) (l m n : ℕ) → l < m → AllByRecursion (λ (s : Row). l ≢ s.number) (map (row_in t) (range_with_len m n))
numbers_above t l m zero h = tt
numbers_above t l m (suc n) h = ((λ e. omega arith), numbers_above t l (m + 1) n (omega arith))

rows_from : (t : TableParts) (l n : ℕ) → Apart (map (row_in t) (range_with_len l n))
rows_from t l zero = tt
rows_from t l (suc n) = (numbers_above t l (l + 1) n (omega arith), rows_from t (l + 1) n)

pub rows_apart : (t : TableParts) → Apart (rows_of t)
rows_apart t = rows_from t 0 (length t.rows)

-- ---- the words of one row

pub greatest_of_one : (x : ℕ) → greatest (x ∷ []) ≡ x
unfolding greatest
greatest_of_one x = omega arith

pub least_of_one : (x : ℕ) → least (x ∷ []) ≡ x
unfolding least
least_of_one x = refl

words_of_one : (k : ℕ) (e : Entry) → words_of (suc k) (in_order (e ∷ [])) ≡ e.place ∷ e.sort ∷ e.show ∷ replicate (3 * k) 0
unfolding words_of ordered insertion
words_of_one k e = ap (λ l. e.place ∷ e.sort ∷ e.show ∷ l) (no_words k)

pub one_entry : (k : ℕ) (e : Entry) (out : List ℕ) → 0 < k → out ≡ replicate (3 * k) 0 → with_entry out 0 e ≡ words_of k (in_order (e ∷ []))
one_entry zero e out h zeros = absurd (omega arith)
one_entry (suc k) e out h zeros =
    let more : 3 * suc k ≡ suc (suc (suc (3 * k))) = omega arith in
    rw (zeros, more) (sym (words_of_one k e))

pub one_top : (k s h a b : ℕ) (r : Row) (out new : List ℕ) → 0 < k → out ≡ replicate (3 * k) 0 → a ≡ code s r → b ≡ code h r
    → new ≡ with_entry out 0 (record { place = r.number + 1; sort = a; show = b }) → new ≡ words_of k (in_order (map (entry s h) (r ∷ [])))
one_top k s h a b r out new some zeros is-a is-b is-new = rw (is-a, is-b) at is-new ∙ one_entry k (entry s h r) out some zeros

pub one_word : (out : List ℕ) (x y : ℕ) → out ≡ replicate 1 0 → x ≡ y → set out 0 x ≡ y ∷ []
one_word out x y zeros e = rw (zeros, e) refl

pub no_entry : (k : ℕ) (l : List Entry) (out : List ℕ) → k ≡ 0 → out ≡ replicate (3 * k) 0 → out ≡ words_of k l
unfolding words_of
no_entry zero l out h zeros = zeros
no_entry (suc k) l out h zeros = absurd (omega arith)

-- ---- the block of one row

zeros_at : (n at w : ℕ) → at + w ≤ n → take {A = ℕ} w (drop at (replicate n 0)) ≡ replicate w 0
zeros_at n at w h = ap (λ (l : List ℕ). take w l) (drop-replicate {X = ℕ} at n 0) ∙ take-replicate {X = ℕ} w (n - at) 0 (omega arith)

pub zeros_length : (n : ℕ) (l : List ℕ) → l ≡ replicate n 0 → length l ≡ n
zeros_length n l e = ap length e ∙ length-replicate n 0

-- the block of a label lies within the cell
pub label_room : (place labels w n : ℕ) → place < labels → n ≡ labels * w → place * w + w ≤ n
label_room place labels w n h e =
    let f : (place + 1) * w ≤ labels * w = mul-le-mul_right w (omega arith) in
    let g : (place + 1) * w ≡ place * w + w = omega arith in
    omega arith

-- the words of that label's block, where all are 0
pub label_zeros : (place labels w n : ℕ) (zeros : List ℕ) → place < labels → n ≡ labels * w → zeros ≡ replicate n 0 → take (place * w + w - place * w) (drop (place * w) zeros) ≡ replicate w 0
label_zeros place labels w n zeros h e is =
    let room = label_room place labels w n h e in
    let width : place * w + w - place * w ≡ w = omega arith in
    rw (is, width) (zeros_at n (place * w) w room)

module _ (adds : Addends) where
  items_words-more : (is : List CellItem) (i : ℕ) (d : CellItem) (rows : List Row) → i < length is
      → items_words adds (take (suc i) is) rows ≡ items_words adds (take i is) rows ++ item_words adds (get_or is i d) rows
  unfolding items_words
  items_words-more [] i d rows h = absurd (omega arith)
  items_words-more (t ∷ is) zero d rows h = append-nil (item_words adds t rows)
  items_words-more (t ∷ is) (suc i) d rows h =
      ap (λ l. item_words adds t rows ++ l) (items_words-more is i d rows (omega arith))
      ∙ sym (append_assoc (item_words adds t rows) (items_words adds (take i is) rows) (item_words adds (get_or is i d) rows))

  pub row_block_first : (zeros : List ℕ) (n : ℕ) (rows : List Row) → zeros ≡ replicate (1 + n) 0 → set zeros 0 1 ≡ (1 ∷ items_words adds [] rows) ++ drop 1 zeros
  unfolding items_words
  row_block_first zeros n rows e = let more : 1 + n ≡ suc n = omega arith in rw (e, more) refl

  pub row_block_zeros : (is : List CellItem) (i : ℕ) (d : CellItem) (rows : List Row) (zeros out : List ℕ) (at end : ℕ) → i < length is
      → at ≡ 1 + items_width (take i is) → end ≡ at + item_width (get_or is i d) → zeros ≡ replicate (block_width is) 0
      → out ≡ (1 ∷ items_words adds (take i is) rows) ++ drop at zeros
      → take (end - at) (drop at out) ≡ replicate (item_width (get_or is i d)) 0
  row_block_zeros is i d rows zeros out at end h is-at is-end is-zeros is-out =
      let room = items_width-room is i d h in
      let len : length (1 ∷ items_words adds (take i is) rows) ≡ at = let e = length-items_words adds (take i is) rows in omega arith in
      let width : end - at ≡ item_width (get_or is i d) = omega arith in
      part_of_done (1 ∷ items_words adds (take i is) rows) zeros out at (end - at) is-out len
      ∙ (ap (λ l. take (end - at) (drop at l)) is-zeros
      ∙ (zeros_at (block_width is) at (end - at) (omega arith) ∙ ap (λ k. replicate k 0) width))

  pub row_block_step : (is : List CellItem) (i : ℕ) (d : CellItem) (rows : List Row) (zeros out new : List ℕ) (at end : ℕ) → i < length is
      → at ≡ 1 + items_width (take i is) → end ≡ at + item_width (get_or is i d)
      → out ≡ (1 ∷ items_words adds (take i is) rows) ++ drop at zeros
      → new ≡ item_words adds (get_or is i d) rows
      → put_mid at (end - at) out new ≡ (1 ∷ items_words adds (take (i + 1) is) rows) ++ drop end zeros
  row_block_step is i d rows zeros out new at end h is-at is-end is-out is-new =
      let done = 1 ∷ items_words adds (take i is) rows in
      let len : length done ≡ at = let e = length-items_words adds (take i is) rows in omega arith in
      let whole : at + (end - at) ≡ end = omega arith in
      let more : items_words adds (take (i + 1) is) rows ≡ items_words adds (take i is) rows ++ new =
      rw add-one (items_words-more is i d rows h) ∙ ap (λ l. items_words adds (take i is) rows ++ l) (sym is-new) in
      more_done done zeros out new at (end - at) is-out len
      ∙ (ap (λ k. done ++ new ++ drop k zeros) whole
      ∙ ap (λ l. (1 ∷ l) ++ drop end zeros) (sym more))

  pub row_block_all : (is : List CellItem) (i : ℕ) (r : Row) (zeros out : List ℕ) (at : ℕ) → i ≡ length is → at ≡ 1 + items_width (take i is)
      → zeros ≡ replicate (block_width is) 0
      → out ≡ (1 ∷ items_words adds (take i is) (r ∷ [])) ++ drop at zeros
      → out ≡ block adds is (r ∷ [])
  unfolding block
  row_block_all is i r zeros out at all is-at is-zeros is-out =
      let whole : take i is ≡ is = take_all i is (omega arith) in
      let e : items_width (take i is) ≡ items_width is = ap (λ l. items_width l) whole in
      let len : length zeros ≡ block_width is = ap length is-zeros ∙ length-replicate (block_width is) 0 in
      let end : drop at zeros ≡ [] = drop_all at zeros (omega arith) in
      is-out
      ∙ (ap (λ l. (1 ∷ items_words adds (take i is) (r ∷ [])) ++ l) end
      ∙ (append-nil (1 ∷ items_words adds (take i is) (r ∷ []))
      ∙ ap (λ l. 1 ∷ items_words adds l (r ∷ [])) whole))

  -- ---- the label of one row

  none_with : (column l : ℕ) (r : Row) → code column r ≢ l → with_label column (r ∷ []) l ≡ []
  none_with column l r h = cond-false (eqb (code column r) l) (r ∷ []) [] (ne_eqb (code column r) l h)

  -- labels above the row's own
  labels_above : (is : List CellItem) (column l n : ℕ) (r : Row) → code column r < l
      → flat_map (block adds is) (map (with_label column (r ∷ [])) (range_with_len l n)) ≡ replicate (n * block_width is) 0
  labels_above is column l zero r h = let e : 0 * block_width is ≡ 0 = omega arith in rw e refl
  labels_above is column l (suc n) r h =
      let w = block_width is in
      let e : w + n * w ≡ suc n * w = omega arith in
      ap (λ b. block adds is b ++ flat_map (block adds is) (map (with_label column (r ∷ [])) (range_with_len (l + 1) n))) (none_with column l r (λ same. omega arith))
      ∙ (ap (λ b. b ++ flat_map (block adds is) (map (with_label column (r ∷ [])) (range_with_len (l + 1) n))) (no_block adds is)
      ∙ (ap (λ b. replicate w 0 ++ b) (labels_above is column (l + 1) n r (omega arith))
      ∙ (replicate-append-replicate w (n * w) 0 ∙ ap (λ k. replicate k 0) e)))

  labels_about : (is : List CellItem) (column l k m : ℕ) (r : Row) → code column r ≡ l + k
      → flat_map (block adds is) (map (with_label column (r ∷ [])) (range_with_len l (suc (k + m))))
      ≡ replicate (k * block_width is) 0 ++ block adds is (r ∷ []) ++ replicate (m * block_width is) 0
  labels_about is column l zero m r h =
      let w = block_width is in
      let none : 0 * w ≡ 0 = omega arith in
      let n : 0 + m ≡ m = omega arith in
      let mine : with_label column (r ∷ []) l ≡ r ∷ [] = cond-true (eqb (code column r) l) (r ∷ []) [] (grind (arith, nat_tests)) in
      rw (none, n)
      (ap (λ b. block adds is b ++ flat_map (block adds is) (map (with_label column (r ∷ [])) (range_with_len (l + 1) m))) mine
      ∙ ap (λ b. block adds is (r ∷ []) ++ b) (labels_above is column (l + 1) m r (omega arith)))
  labels_about is column l (suc k) m r h =
      let w = block_width is in
      let n : suc k + m ≡ suc (k + m) = omega arith in
      let e : w + k * w ≡ suc k * w = omega arith in
      let B = block adds is (r ∷ []) in
      let rest = flat_map (block adds is) (map (with_label column (r ∷ [])) (range_with_len (l + 1) (suc (k + m)))) in
      let ih = labels_about is column (l + 1) k m r (omega arith) in
      rw n
      (ap (λ b. block adds is b ++ rest) (none_with column l r (λ same. omega arith))
      ∙ (ap (λ b. b ++ rest) (no_block adds is)
      ∙ (ap (λ b. replicate w 0 ++ b) ih
      ∙ (sym (append_assoc (replicate w 0) (replicate (k * w) 0 ++ B) (replicate (m * w) 0))
      ∙ (ap (λ b. b ++ replicate (m * w) 0) (sym (append_assoc (replicate w 0) (replicate (k * w) 0) B))
      ∙ ap (λ b. b ++ B ++ replicate (m * w) 0) (replicate-append-replicate w (k * w) 0 ∙ ap (λ j. replicate j 0) e))))))

  -- the blocks of all labels: the row's own at its place, zeros elsewhere
  pub one_label : (is : List CellItem) (column labels place w : ℕ) (r : Row) (zeros new : List ℕ) → place ≡ code column r → place < labels → w ≡ block_width is
      → zeros ≡ replicate (labels * block_width is) 0 → new ≡ block adds is (r ∷ [])
      → put_mid (place * w) (place * w + w - place * w) zeros new ≡ flat_map (block adds is) (map (with_label column (r ∷ [])) (range_with_len 0 labels))
  one_label is column labels place w r zeros new is-place inside is-w is-zeros is-new =
      let W = block_width is in
      let at = place * W in
      let m : ℕ = labels - place - 1 in
      let count : labels ≡ suc (place + m) = omega arith in
      let all : labels * W ≡ at + (W + m * W) =
      ap (λ k. k * W) count ∙ (let e : suc (place + m) * W ≡ W + (place + m) * W = omega arith in e ∙ (let f = add-mul place m W in omega arith)) in
      let width : at + W - at ≡ W = omega arith in
      let front : take at zeros ≡ replicate at 0 = ap (λ l. take at l) is-zeros ∙ take-replicate {X = ℕ} at (labels * W) 0 (omega arith) in
      let back : drop W (drop at zeros) ≡ replicate (m * W) 0 =
      ap (λ l. drop W (drop at l)) is-zeros
      ∙ (ap (λ (l : List ℕ). drop W l) (drop-replicate {X = ℕ} at (labels * W) 0)
      ∙ (drop-replicate {X = ℕ} W (labels * W - at) 0 ∙ ap (λ k. replicate k 0) (let e : labels * W - at - W ≡ m * W = omega arith in e))) in
      let B = block adds is (r ∷ []) in
      rw (is-w, width, front, back, is-new)
      (sym (append_assoc (replicate at 0) B (replicate (m * W) 0))
      ∙ (sym (labels_about is column 0 place m r (omega arith)) ∙ ap (λ n. flat_map (block adds is) (map (with_label column (r ∷ [])) (range_with_len 0 n))) (sym count)))
