-- The keys and cells of kept rows, which grow by a row at a time.
use Rattle.std.proofs.Common.{◌≡◌, ℕ, ◌+◌, ◌*◌, ◌^◌, ◌<◌, ◌≤◌, true, false, List, [], ◌∷◌, ◌++◌, length, map, refl, ap, sym, ◌∙◌, arith, length-append}
use Rattle.std.specs.List.{filter, flat_map}
use Rattle.std.proofs.Math.Nat.{add-mul, mul-le-mul}
use Rattle.std.proofs.lemmas.List.{append-nil, map-append}
use Rattle.std.proofs.lemmas.List.Elements.{All-append, All-cons, All-nil}
use Rattle.std.proofs.lemmas.Grind.{flat_map-append}
use Rattle.spl_values.specs.Tables.{TableParts}
use Rattle.cell_merge.specs.Rows.{Row}
use Rattle.cell_merge.specs.Cells.{cell_width}
use Rattle.query_reader.specs.declared.checked.Checked.{Checked}
use Rattle.query_reader.specs.Matching.{is_kept}
use Rattle.count_sum.specs.SumPairs.{AreRowCells, joined_key, pairs_of, row_cell}
use Rattle.count_sum.proofs.KeptRows.{filter-kept, filter-left_out}

pub no_entries : (checked : Checked) (t : TableParts) (keys cells : List ℕ) → keys ≡ [] → cells ≡ [] → AreRowCells checked t [] keys cells
no_entries checked t keys cells k c = rw (k, c) (record { each_key = refl; each_cell = refl; bits = All-nil (λ x. x < 2 ^ checked.bits); whole = omega arith; few = omega arith })

pub left_out : (checked : Checked) (t : TableParts) (rows : List Row) (r : Row) (keys cells : List ℕ) → is_kept checked.public r ≡ false → AreRowCells checked t rows keys cells → AreRowCells checked t (rows ++ r ∷ []) keys cells
left_out checked t rows r keys cells e are =
    let same = sym (filter-left_out (is_kept checked.public) rows r e) in record {
      each_key = are.each_key ∙ ap (λ l. map (λ p. p.0) (pairs_of checked t l)) same;
      each_cell = are.each_cell ∙ ap (λ l. flat_map (λ p. p.1) (pairs_of checked t l)) same;
      bits = are.bits;
      whole = are.whole;
      few = let longer = length-append rows (r ∷ []) in let few = are.few in omega arith;
    }

pairs-one : (checked : Checked) (t : TableParts) (rows : List Row) (r : Row) → pairs_of checked t (rows ++ r ∷ []) ≡ pairs_of checked t rows ++ (joined_key checked t r, row_cell checked t r) ∷ []
pairs-one checked t rows r = map-append (λ r. (joined_key checked t r, row_cell checked t r)) rows (r ∷ [])

whole_more : (n m k w a b : ℕ) → a ≡ n + 1 → b ≡ m + k → k ≡ w → m ≡ n * w → b ≡ a * w
whole_more n m k w a b is-a is-b is-k is-m = let more : (n + 1) * w ≡ n * w + 1 * w = add-mul n 1 w in rw is-a (omega arith)

pub entry_added : (checked : Checked) (t : TableParts) (rows : List Row) (r : Row) (keys cells : List ℕ) (k : ℕ) (c : List ℕ) → is_kept checked.public r ≡ true
    → k ≡ joined_key checked t r → k < 2 ^ checked.bits → c ≡ row_cell checked t r → length c ≡ cell_width checked.spec
    → AreRowCells checked t rows keys cells → AreRowCells checked t (rows ++ r ∷ []) (keys ++ k ∷ []) (cells ++ c)
entry_added checked t rows r keys cells k c e is-key below is-cell wide are =
    let kept = filter (is_kept checked.public) rows in
    let more : pairs_of checked t (filter (is_kept checked.public) (rows ++ r ∷ [])) ≡ pairs_of checked t kept ++ (joined_key checked t r, row_cell checked t r) ∷ [] =
    ap (pairs_of checked t) (filter-kept (is_kept checked.public) rows r e) ∙ pairs-one checked t kept r in
    let first : ℕ × List ℕ → ℕ = λ p. p.0 in
    let second : ℕ × List ℕ → List ℕ = λ p. p.1 in
    let pair : ℕ × List ℕ = (joined_key checked t r, row_cell checked t r) in
    record {
      each_key =
          ap (λ l. l ++ k ∷ []) are.each_key
          ∙ (ap (λ x. map first (pairs_of checked t kept) ++ x ∷ []) is-key
          ∙ (sym (map-append first (pairs_of checked t kept) (pair ∷ [])) ∙ ap (map first) (sym more)));
      each_cell =
          ap (λ l. l ++ c) are.each_cell
          ∙ (ap (λ l. flat_map second (pairs_of checked t kept) ++ l) (is-cell ∙ sym (append-nil (row_cell checked t r)))
          ∙ (sym (flat_map-append second (pairs_of checked t kept) (pair ∷ [])) ∙ ap (flat_map second) (sym more)));
      bits = All-append (λ x. x < 2 ^ checked.bits) keys (k ∷ []) are.bits (All-cons (λ x. x < 2 ^ checked.bits) k [] below (All-nil (λ x. x < 2 ^ checked.bits)));
      whole = whole_more (length keys) (length cells) (length c) (cell_width checked.spec) _ _ (length-append keys (k ∷ [])) (length-append cells c) wide are.whole;
      few = let longer = length-append rows (r ∷ []) in let keyed = length-append keys (k ∷ []) in let few = are.few in omega arith;
    }

pub room : (kept width : ℕ) → kept ≤ 262144 → width ≤ 128 → kept * width < 2 ^ 64
room kept width few narrow = let most : kept * width ≤ 262144 * 128 = mul-le-mul few narrow in omega arith
