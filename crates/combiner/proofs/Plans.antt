-- How many cells come back, and how wide they are.
use Rattle.std.proofs.Common.{◌≡◌, ℕ, ◌*◌, ◌<◌, ◌≤◌, Bool, true, List, length, [], get_or, Option, None, Some, slice_get, refl, arith, IsTrue}
use Rattle.std.specs.Prelude.{All}
use Rattle.std.proofs.lemmas.Bool.Decides.{nat_tests}
use Rattle.std.proofs.lemmas.Option.{slice_get-get_or}
use Rattle.spl_values.specs.Kinds.{is_kind}
use Rattle.spl_values.specs.Shapes.{ColumnParts, IsColumn, ShapeParts}
use Rattle.spl_values.specs.declared.kinds.ColumnType.{ColumnType}
use Rattle.spl_values.specs.declared.kinds.ColumnType.TheVariants.{Uint, Text, Enum}
use Rattle.cell_merge.specs.declared.spec.CellSpec.{CellSpec}
use Rattle.cell_merge.specs.Cells.{block_width, blocks, cell_width}
use Rattle.cell_merge.specs.TableRows.{GroupsLabels, HasLabels, SpecFits, kind_in}
use Rattle.clear_sql.proofs.CellAnswers.{block_small}
use Rattle.private_plan.specs.declared.plans.PlanKind.TheVariants as kind
use Rattle.private_plan.specs.declared.plans.PlanKind.{PlanKind}
use Rattle.private_plan.specs.Plans.{brings_cells, kind_of, last_bits, plan_for, plan_of}
use Rattle.query_reader.specs.declared.checked.Checked.{Checked}
use Rattle.combiner.specs.Finals.{last_words}

-- ---- how many words a cell has

labels_some : (labels : ℕ) (k : ColumnType) → IsTrue (is_kind k) → HasLabels labels k → 1 ≤ labels
labels_some labels (Uint b) typed has = absurd has
labels_some labels (Text b) typed has = absurd has
labels_some labels (Enum names) typed has = grind (arith, nat_tests, typed, has)

blocks_some : (columns : List ColumnParts) (labels : ℕ) (group : Option ℕ) → All IsColumn columns → GroupsLabels columns labels group → 1 ≤ blocks group labels
blocks_some columns labels None each groups = omega arith
blocks_some columns labels (Some c) each groups =
    let none : ColumnParts = record { name = []; kind = Uint 0 } in
    let here : slice_get columns c ≡ Some (get_or columns c none) = slice_get-get_or columns c none groups.0 in
    labels_some labels (kind_in columns c) (rw here (each c none groups.0).typed) groups.1

-- a block has no more words than its cell, which has one at least
pub block_fits : (spec : CellSpec) (columns : List ColumnParts) → All IsColumn columns → SpecFits spec columns → block_width spec.items ≤ cell_width spec
block_fits spec columns each fits =
    block_small (blocks spec.group spec.labels) (block_width spec.items) (cell_width spec) (blocks_some columns spec.labels spec.group each fits.grouped) refl

pub cell_some : (spec : CellSpec) (columns : List ColumnParts) → All IsColumn columns → SpecFits spec columns → 0 < cell_width spec
cell_some spec columns each fits = omega (arith, block_fits spec columns each fits)

-- ---- how many cells come back

-- the words of the last round of a plan of sums are those of one cell
words_of_sums : (k : PlanKind) (range : Bool) (slots n w width rows : ℕ) → k ≡ kind.Sum → last_words (plan_for k range slots n w width rows) ≡ width
words_of_sums kind.Sum range slots n w width rows e = refl
words_of_sums kind.Point range slots n w width rows e = absurd cc
words_of_sums kind.Aligned range slots n w width rows e = absurd cc
words_of_sums kind.Position range slots n w width rows e = absurd cc

pub words_of_plan : (checked : Checked) (shape : ShapeParts) → (plan_of checked shape).kind ≡ kind.Sum → last_words (plan_of checked shape) ≡ cell_width checked.spec
words_of_plan checked shape e =
    words_of_sums (kind_of checked shape.schema.columns) checked.range checked.branches checked.bits (last_bits shape.schema.columns checked.columns) (cell_width checked.spec) shape.rows e

-- where each tree brings a cell, they are those of as many cells
words_of_trees : (k : PlanKind) (range : Bool) (slots n w width rows : ℕ) → brings_cells k ≡ true → last_words (plan_for k range slots n w width rows) ≡ length (plan_for k range slots n w width rows).first * width
words_of_trees kind.Sum range slots n w width rows e = absurd cc
words_of_trees kind.Point range slots n w width rows e = refl
words_of_trees kind.Aligned range slots n w width rows e = refl
words_of_trees kind.Position range slots n w width rows e = absurd cc

pub words_of_cells : (checked : Checked) (shape : ShapeParts) → brings_cells (plan_of checked shape).kind ≡ true → last_words (plan_of checked shape) ≡ length (plan_of checked shape).first * cell_width checked.spec
words_of_cells checked shape e =
    words_of_trees (kind_of checked shape.schema.columns) checked.range checked.branches checked.bits (last_bits shape.schema.columns checked.columns) (cell_width checked.spec) shape.rows e
