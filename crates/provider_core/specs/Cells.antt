-- What an answer is folded over, and where its words stand.
use Rattle.std.specs.Prelude.{◌≡◌, ℕ, ◌*◌, ◌^◌, ◌<◌, ◌==◌, All, List, length, map, take, drop, if◌then◌else◌}
use Rattle.spl_words.specs.Folds.{AreEntries}
use Rattle.spl_values.specs.Tables.{TableParts}
use Rattle.cell_merge.specs.declared.cells.CellTable.{CellTable}
use Rattle.key_frames.specs.declared.keys.Key.{Key}
use Rattle.key_frames.specs.Trees.{key_tree}
use Rattle.query_reader.specs.declared.checked.Checked.{Checked}
use Rattle.private_plan.specs.declared.plans.Plan.{Plan}
use Rattle.private_plan.specs.declared.plans.PlanKind.{PlanKind}
use Rattle.private_plan.specs.declared.plans.PlanKind.TheVariants as kind
use Rattle.private_plan.specs.Plans.{position_bits}
use Rattle.private_plan.specs.Rounds.{Entries, rows, ones, by_key, by_position, first_depth}
use Rattle.session_model.specs.Answers.{entries_of, entry_width}

-- what the folds of a round of such a plan begin with: the rows for a sum, the rows with the word 1 for counts, and else the cells by joined key or by position
abbrev pub first_entries : PlanKind → ℕ → Entries
first_entries kind.Sum round = rows
first_entries kind.Point round = by_key 0
first_entries kind.Aligned round = by_key 0
first_entries kind.Position round = if round == 2 then by_position 0 else ones

-- how many bits the numbers of these have: those of the joined key, or of a position
abbrev pub first_bits : PlanKind → ℕ → Checked → TableParts → ℕ
first_bits kind.Sum round checked table = checked.bits
first_bits kind.Point round checked table = checked.bits
first_bits kind.Aligned round checked table = checked.bits
first_bits kind.Position round checked table = if round == 2 then position_bits table.shape.rows else checked.bits

-- the cells of a round without so many lowest bits: by joined key, and by position in a second round
abbrev pub by_number : ℕ → ℕ → Entries
by_number round level = if round == 2 then by_position level else by_key level

-- the cells of a query over a table: those of these entries, whose numbers have so many bits
pub record AreCells (checked : Checked) (table : TableParts) (entries : Entries) (bits : ℕ) (cells : CellTable) : Type 0 where
  pub each : AreEntries (entry_width checked entries) (entries_of checked table entries) cells.keys cells.cells
  pub width : cells.width ≡ entry_width checked entries
  pub whole : length cells.cells ≡ length cells.keys * cells.width
  pub below : All (λ x. x < 2 ^ bits) cells.keys

-- the number of levels of the first of some keys
abbrev pub first_levels : List Key → ℕ
first_levels keys = first_depth (map key_tree keys)

-- how many words answer a round of a plan
abbrev pub words_in : Plan → ℕ → ℕ
words_in plan round = if round == 2 then plan.second_words else plan.first_words

-- the i-th so many words, which are those of key i
abbrev pub words_at : ℕ → ℕ → List ℕ → List ℕ
words_at width i words = take width (drop (i * width) words)
