-- The answer frame of a provider to a key frame, over a table.
use Rattle.std.specs.Prelude.{ℕ, ◌+◌, ◌/◌, ◌^◌, List, [], ◌∷◌, map, take, drop}
use Rattle.std.specs.List.{flat_map}
use Rattle.sha2.specs.Sha256.{sha256}
use Rattle.spl_words.specs.declared.provider.Provider.{Provider}
use Rattle.spl_words.specs.Folds.{fold_words}
use Rattle.spl_values.specs.Tables.{TableParts}
use Rattle.csv_tables.specs.Writing.{digest_of}
use Rattle.cell_merge.specs.Rows.{Row}
use Rattle.cell_merge.specs.Cells.{cell_width}
use Rattle.cell_merge.specs.TableRows.{adds_in}
use Rattle.seed_expansion.specs.Expanders.{Meaning}
use Rattle.query_reader.specs.declared.checked.Checked.{Checked}
use Rattle.query_reader.specs.Matching.{kept_rows}
use Rattle.cell_runs.specs.CellsBy.{cells_by}
use Rattle.count_sum.specs.SumPairs.{joined_key, sum_pairs}
use Rattle.count_sum.specs.Positions.{position}
use Rattle.private_plan.specs.Plans.{plan_of}
use Rattle.private_plan.specs.Rounds.{Entries, Fold, rows, ones, by_key, by_position, first_tree, folds_in}
use Rattle.key_frames.specs.declared.frame.KeyFrame.{KeyFrame}
use Rattle.key_frames.specs.declared.keys.Key.{Key}
use Rattle.key_frames.specs.Trees.{key_shares}
use Rattle.answer_frames.specs.declared.answer.AnswerFrame.{AnswerFrame}
use Rattle.answer_frames.specs.Spelling.{spelling}

-- the cells of the kept rows by a number without so many of its lowest bits
abbrev pub cells_at : Checked → TableParts → (Row → ℕ) → ℕ → List (ℕ × List ℕ)
cells_at checked table number level = cells_by (adds_in table.shape.schema.columns) checked.spec (λ r. number r / 2 ^ level) (kept_rows checked table)

-- the numbers and cells that a fold runs over
abbrev pub entries_of : Checked → TableParts → Entries → List (ℕ × List ℕ)
entries_of checked table rows = sum_pairs checked table
entries_of checked table ones = map (λ r. (joined_key checked table r, 1 ∷ [])) (kept_rows checked table)
entries_of checked table (by_key level) = cells_at checked table (joined_key checked table) level
entries_of checked table (by_position level) = cells_at checked table (position checked table) level

-- how many words each of them has
abbrev pub entry_width : Checked → Entries → ℕ
entry_width checked rows = cell_width checked.spec
entry_width checked ones = 1
entry_width checked (by_key level) = cell_width checked.spec
entry_width checked (by_position level) = cell_width checked.spec

-- the words of a fold: its keys' shares, in trees numbered from `tree` on, over its entries
abbrev pub words_of_fold : Meaning → Provider → ℕ → List Key → Checked → TableParts → Fold → List ℕ
words_of_fold e p tree keys checked table f = fold_words (key_shares e p (tree + f.first) (take f.count (drop f.first keys))) (entries_of checked table f.entries) (entry_width checked f.entries)

-- the words of an answer in a round: those of its folds, one after another
unfoldable pub answer_words : Meaning → Provider → ℕ → List Key → Checked → TableParts → List ℕ
answer_words e p round keys checked table = let plan = plan_of checked table.shape in flat_map (words_of_fold e p (first_tree plan round) keys checked table) (folds_in plan round)

-- the answer of a provider to a key frame with these bytes, whose query is the accepted one
abbrev pub answer_frame : Meaning → Provider → List ℕ → KeyFrame → Checked → TableParts → AnswerFrame
answer_frame e p bytes frame checked table =
    record { session = frame.session; round = frame.round; provider = p; key = sha256 bytes; table = digest_of table; words = answer_words e p frame.round frame.keys checked table }

-- its bytes
abbrev pub answer_bytes : Meaning → Provider → List ℕ → KeyFrame → Checked → TableParts → List ℕ
answer_bytes e p bytes frame checked table = spelling (answer_frame e p bytes frame checked table)
