-- The words of a fold over a table's entries are those of an answer.
use Rattle.std.proofs.Common.{◌≡◌, ◌<◌, ◌^◌, ℕ, List, [], ◌∷◌, arith, length, map, ap, ◌∙◌, slice_index, replicate}
use Rattle.std.specs.List.{AllByRecursion, flat_map}
use Rattle.std.proofs.lemmas.List.{get_or-replicate}
use Rattle.std.proofs.lemmas.List.FromFn.{fill_by_all}
use Rattle.spl_words.specs.Words.{plus}
use Rattle.spl_words.specs.Folds.{AreEntries, Gains, fold_word, fold_words}
use Rattle.spl_words.specs.declared.provider.Provider.{Provider}
use Rattle.spl_values.specs.Tables.{TableParts}
use Rattle.cell_merge.specs.Rows.{Row}
use Rattle.cell_merge.specs.Cells.{cell_width}
use Rattle.cell_merge.specs.TableRows.{adds_in}
use Rattle.clear_sql.proofs.GoodCells.{length-cell}
use Rattle.query_reader.specs.declared.checked.Checked.{Checked}
use Rattle.query_reader.specs.Matching.{kept_rows}
use Rattle.count_sum.specs.SumPairs.{pairs_of, sum_pairs}
use Rattle.answer_frames.specs.Spelling.{spelling}

-- words that gained the sums of a fold, from zeros on
pub from_zeros : (share : ℕ → ℕ) (entries : List (ℕ × List ℕ)) (width : ℕ) (zeros words : List ℕ) → zeros ≡ replicate width 0 → length words ≡ width → Gains share entries width zeros words → words ≡ fold_words share entries width
from_zeros share entries width zeros words none long gains =
    fill_by_all (fold_word share entries) words width 0 long
    (λ k h. gains.each k h ∙ (ap (λ n. plus n (fold_word share entries k)) (ap (λ l. slice_index l k) none ∙ get_or-replicate width k 0 0 h) ∙ once (fold_word share entries k) (below k))) where
      once : (n : ℕ) → n < 2 ^ 64 → plus 0 n ≡ n
      once n h = omega arith

      below : (k : ℕ) → fold_word share entries k < 2 ^ 64
      below k = omega arith

-- the cell of each row has the words of a cell
each_cell : (checked : Checked) (table : TableParts) (rows : List Row) → AllByRecursion (λ (p : ℕ × List ℕ). length p.1 ≡ cell_width checked.spec) (pairs_of checked table rows)
each_cell checked table [] = tt
each_cell checked table (r ∷ rs) = (length-cell (adds_in table.shape.schema.columns) checked.spec (r ∷ []), each_cell checked table rs)

-- the keys and cells of the kept rows are those of a sum's entries
pub entries_are : (checked : Checked) (table : TableParts) (keys cells : List ℕ) → keys ≡ map (λ (q : ℕ × List ℕ). q.0) (sum_pairs checked table) → cells ≡ flat_map (λ (q : ℕ × List ℕ). q.1) (sum_pairs checked table)
    → AreEntries (cell_width checked.spec) (sum_pairs checked table) keys cells
entries_are checked table keys cells ks cs = record { each_number = ks; each_cell = cs; wide = each_cell checked table (kept_rows checked table) }

-- frames of the same digests and words have the same bytes
pub same_spelling : (session round : ℕ) (p : Provider) (key key' table table' words words' : List ℕ) → key ≡ key' → table ≡ table' → words ≡ words'
    → spelling (record { session = session; round = round; provider = p; key = key; table = table; words = words }) ≡ spelling (record { session = session; round = round; provider = p; key = key'; table = table'; words = words' })
same_spelling session round p key key' table table' words words' k t w =
    ap (λ x. spelling (record { session = session; round = round; provider = p; key = x; table = table; words = words })) k
    ∙ ap (λ x. spelling (record { session = session; round = round; provider = p; key = key'; table = x; words = words })) t
    ∙ ap (λ x. spelling (record { session = session; round = round; provider = p; key = key'; table = table'; words = x })) w
