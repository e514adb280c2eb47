-- The cells that come back in the first round of a query.
use Rattle.std.specs.Prelude.{◌≡◌, ℕ, Bool, ◌-◌, ◌/◌, ◌^◌, ◌==◌, List, [], ◌∷◌, map}
use Rattle.std.specs.List.{filter, flat_map}
use Rattle.spl_words.specs.declared.provider.Provider.{Provider}
use Rattle.spl_words.specs.Secrets.{Secret, secret_value}
use Rattle.spl_values.specs.Tables.{TableParts}
use Rattle.cell_merge.specs.Rows.{Row}
use Rattle.cell_merge.specs.Cells.{cell}
use Rattle.cell_merge.specs.TableRows.{adds_in, rows_of}
use Rattle.seed_expansion.specs.Expanders.{Meaning}
use Rattle.query_reader.specs.declared.checked.Checked.{Checked}
use Rattle.query_reader.specs.Matching.{kept_rows, matching_rows}
use Rattle.count_sum.specs.SumPairs.{joined_key}
use Rattle.key_frames.specs.Trees.{key_list}
use Rattle.private_plan.specs.declared.plans.PlanKind.{PlanKind}
use Rattle.private_plan.specs.declared.plans.PlanKind.TheVariants as kind
use Rattle.private_plan.specs.Plans.{kind_of}
use Rattle.private_plan.specs.Rounds.{first_round, secrets_in}
use Rattle.session_model.specs.Answers.{answer_words}

-- the kept rows that a point's secret tells: by a number of so many bits, without as many of its lowest bits as the tree is less deep
abbrev pub told_by : Checked → TableParts → (Row → ℕ) → ℕ → Secret → List Row
told_by checked table number bits s = filter (λ r. secret_value s (number r / 2 ^ (bits - s.depth)) == 1) (kept_rows checked table)

-- those that it tells by the joined key
abbrev pub told_rows : Checked → TableParts → Secret → List Row
told_rows checked table s = told_by checked table (joined_key checked table) checked.bits s

-- those of each secret of the first round
abbrev pub each_told : Checked → TableParts → List ℕ → List (List Row)
each_told checked table params = map (told_rows checked table) (secrets_in checked table.shape params first_round)

-- the rows of each cell that comes back in the first round of a plan of that kind: the matching ones of a sum, and else those that each secret tells; counts are no cells
abbrev pub rows_for : PlanKind → Checked → TableParts → List ℕ → List (List Row)
rows_for kind.Sum checked table params = matching_rows checked params table ∷ []
rows_for kind.Point checked table params = each_told checked table params
rows_for kind.Aligned checked table params = each_told checked table params
rows_for kind.Position checked table params = []

-- the same of a query's plan
unfoldable pub rows_back : Checked → TableParts → List ℕ → List (List Row)
rows_back checked table params = rows_for (kind_of checked table.shape.schema.columns) checked table params

-- rows of a table that pass some test
abbrev pub ArePicked : TableParts → List Row → Type 0
ArePicked table rows = (passes : Row → Bool) × (rows ≡ filter passes (rows_of table))

-- the words of those cells, one cell after another
abbrev pub cells_back : Checked → TableParts → List ℕ → List ℕ
cells_back checked table params = flat_map (cell (adds_in table.shape.schema.columns) checked.spec) (rows_back checked table params)

-- the words of a provider's answer in the first round, under its own keys of the secrets
abbrev pub first_answer : Meaning → Provider → Checked → TableParts → List ℕ → List (ℕ × ℕ) → List ℕ
first_answer e p checked table params roots = answer_words e p 1 (key_list e p 0 (secrets_in checked table.shape params first_round) roots) checked table
