-- The answer that the combined words of a query's last round stand for.
use Rattle.std.specs.Prelude.{ℕ, ◌/◌, ◌==◌, List, length, map, Result, Ok, if◌then◌else◌}
use Rattle.std.specs.Fork.{slice_chunk}
use Rattle.std.specs.List.{range_with_len}
use Rattle.spl_words.specs.Results.{◌>>=◌}
use Rattle.spl_values.specs.Shapes.{ShapeParts}
use Rattle.cell_merge.specs.Cells.{cell_width, merge_all}
use Rattle.query_reader.specs.declared.checked.Checked.{Checked}
use Rattle.clear_sql.specs.declared.answer.Group.{Group}
use Rattle.clear_sql.specs.CellAnswers.{answer_of}
use Rattle.private_plan.specs.declared.plans.Plan.{Plan}
use Rattle.combiner.specs.declared.finals.FinalFault.{FinalFault}
use Rattle.combiner.specs.GoodWords.{good_words}

-- how many words come back in the last round of a plan
abbrev pub last_words : Plan → ℕ
last_words plan = if plan.rounds == 2 then plan.second_words else plan.first_words

-- the cells of so many words each that stand one behind another
abbrev pub cells_in : ℕ → List ℕ → List (List ℕ)
cells_in width words = map (slice_chunk words width) (range_with_len 0 (length words / width))

-- the answer that the merge of the cells in some words stands for, or the first word that isn't good
unfoldable pub final_of : Checked → ShapeParts → List ℕ → Result (List Group) FinalFault
final_of checked shape words = do
  good ← good_words shape.schema.columns checked.spec.items shape.rows 0 words
  Ok (answer_of shape.schema.columns checked.spec (merge_all checked.spec (cells_in (cell_width checked.spec) words)))
