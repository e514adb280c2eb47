-- A plan of two rounds: the counts that come back in the first round, and the cells that come back in the second.
use Rattle.std.specs.Prelude.{ℕ, ◌≤◌, Bool, nat_le, nat_lt, List, [], ◌∷◌, map, sum_by, Option, None, Some, if◌then◌else◌}
use Rattle.std.specs.List.{flat_map}
use Rattle.spl_words.specs.declared.provider.Provider.{Provider}
use Rattle.spl_words.specs.Secrets.{Secret}
use Rattle.spl_values.specs.Tables.{TableParts}
use Rattle.interval_keys.specs.Intervals.{Span}
use Rattle.cell_merge.specs.Rows.{Row}
use Rattle.cell_merge.specs.Cells.{cell}
use Rattle.cell_merge.specs.TableRows.{adds_in}
use Rattle.seed_expansion.specs.Expanders.{Meaning}
use Rattle.query_reader.specs.declared.checked.Checked.{Checked}
use Rattle.query_reader.specs.Matching.{kept_rows}
use Rattle.count_sum.specs.SumPairs.{joined_key}
use Rattle.count_sum.specs.Positions.{position}
use Rattle.key_frames.specs.Trees.{key_list}
use Rattle.private_plan.specs.Plans.{plan_of, position_bits}
use Rattle.private_plan.specs.Slots.{slots_of}
use Rattle.private_plan.specs.Rounds.{Round, first_tree, secrets_in}
use Rattle.session_model.specs.Answers.{answer_words}
use Rattle.session_model.specs.Cells.{told_by}

-- ---- counts

-- how many kept rows have a joined key that passes a test
abbrev pub count_keys : Checked → TableParts → (ℕ → Bool) → ℕ
count_keys checked table passes = sum_by (λ r. if passes (joined_key checked table r) then 1 else 0) (kept_rows checked table)

-- how many have a joined key below a number
abbrev pub keys_below : Checked → TableParts → ℕ → ℕ
keys_below checked table n = count_keys checked table (λ x. nat_lt x n)

-- how many have a joined key of at most a number
abbrev pub keys_upto : Checked → TableParts → ℕ → ℕ
keys_upto checked table n = count_keys checked table (λ x. nat_le x n)

-- the two counts of a slot: how many kept rows are below it, and how many below it or in it
abbrev pub slot_counts : Checked → TableParts → Option Span → List ℕ
slot_counts checked table None = 0 ∷ 0 ∷ []
slot_counts checked table (Some s) = keys_below checked table s.lo ∷ keys_upto checked table s.hi ∷ []

-- the counts of all slots of a query, one slot after another
unfoldable pub counts_of : Checked → TableParts → List ℕ → List ℕ
counts_of checked table params = flat_map (slot_counts checked table) (slots_of checked table.shape.schema.columns params)

-- pairs of counts over so many rows: the second of a pair is no less than the first, and no more than the rows
abbrev pub AreCounts : ℕ → List ℕ → Type 0
AreCounts rows [] = Unit {0}
AreCounts rows (below ∷ []) = ⊥
AreCounts rows (below ∷ upto ∷ counts) = (below ≤ upto) × (upto ≤ rows) × AreCounts rows counts

-- ---- the second round

-- the second round of a query over a table, with the counts of the first
abbrev pub second_round : Checked → TableParts → List ℕ → Round
second_round checked table params = record { number = 2; counts = counts_of checked table params }

-- the secrets of its trees
abbrev pub second_asked : Checked → TableParts → List ℕ → List Secret
second_asked checked table params = secrets_in checked table.shape params (second_round checked table params)

-- the kept rows that a point's secret tells by their position
abbrev pub placed_rows : Checked → TableParts → Secret → List Row
placed_rows checked table s = told_by checked table (position checked table) (position_bits table.shape.rows) s

-- the rows of each cell that comes back in the second round: those that each secret tells
unfoldable pub rows_back_second : Checked → TableParts → List ℕ → List (List Row)
rows_back_second checked table params = map (placed_rows checked table) (second_asked checked table params)

-- the words of those cells, one cell after another
abbrev pub cells_back_second : Checked → TableParts → List ℕ → List ℕ
cells_back_second checked table params = flat_map (cell (adds_in table.shape.schema.columns) checked.spec) (rows_back_second checked table params)

-- the words of a provider's answer in the second round, under its own keys of the secrets, in trees numbered behind those of the first
abbrev pub second_answer : Meaning → Provider → Checked → TableParts → List ℕ → List (ℕ × ℕ) → List ℕ
second_answer e p checked table params roots = answer_words e p 2 (key_list e p (first_tree (plan_of checked table.shape) 2) (second_asked checked table params) roots) checked table
