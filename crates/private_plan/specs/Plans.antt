-- Plans: which trees a query asks for in each round, and how many words come back.
use Rattle.std.specs.Prelude.{◌≡◌, ℕ, ◌-◌, ◌*◌, ◌^◌, Bool, true, false, nat_le, find, List, [], ◌∷◌, length, replicate, unwrap_or, slice_index, if◌then◌else◌}
use Rattle.std.specs.List.{flat_map, list_all, range_with_len}
use Rattle.spl_words.specs.declared.secret.TreeKind.{TreeKind}
use Rattle.spl_words.specs.declared.secret.TreeKind.TheVariants.{Point as PointTree, Threshold as ThresholdTree}
use Rattle.spl_values.specs.Shapes.{ColumnParts, ShapeParts}
use Rattle.spl_values.specs.Tables.{column_bits}
use Rattle.cell_merge.specs.declared.spec.CellItem.{CellItem}
use Rattle.cell_merge.specs.declared.spec.CellItem.TheVariants.{Count, Sum, Avg, Max, Min, TopK}
use Rattle.cell_merge.specs.Cells.{cell_width}
use Rattle.query_reader.specs.declared.checked.Checked.{Checked}
use Rattle.spl_words.specs.declared.secret.KeySpec.{KeySpec}
use Rattle.private_plan.specs.declared.plans.Plan.{Plan}
use Rattle.private_plan.specs.declared.plans.PlanKind.{PlanKind}
use Rattle.private_plan.specs.declared.plans.PlanKind.TheVariants as kind

-- the item's words add up
abbrev pub is_sum : CellItem → Bool
is_sum Count = true
is_sum (Sum c) = true
is_sum (Avg c) = true
is_sum (Max c) = false
is_sum (Min c) = false
is_sum (TopK k s h) = false

-- the bits of the last of some columns
abbrev pub last_bits : List ColumnParts → List ℕ → ℕ
last_bits columns places = column_bits columns (slice_index places (length places - 1))

-- the kind of the plan: from whether all items are sums, whether there is a range, and the bits of its column
abbrev pub kind_for : Bool → Bool → ℕ → PlanKind
kind_for true range w = kind.Sum
kind_for false false w = kind.Point
kind_for false true w = if nat_le w 16 then kind.Aligned else kind.Position

-- the kind of a query's plan
abbrev pub kind_of : Checked → List ColumnParts → PlanKind
kind_of checked columns = kind_for (list_all is_sum checked.spec.items) checked.range (last_bits columns checked.columns)

-- plans of that kind are answered so far
abbrev pub is_built : PlanKind → Bool
is_built kind.Sum = true
is_built kind.Point = true
is_built kind.Aligned = true
is_built kind.Position = false

-- each tree of the first round of such a plan brings a cell
abbrev pub brings_cells : PlanKind → Bool
brings_cells kind.Sum = false
brings_cells kind.Point = true
brings_cells kind.Aligned = true
brings_cells kind.Position = false

-- a query's plan is one that is answered so far
abbrev pub IsBuilt : Checked → List ColumnParts → Type 0
IsBuilt checked columns = is_built (kind_of checked columns) ≡ true

-- a tree of that kind and depth
abbrev pub tree : TreeKind → ℕ → KeySpec
tree k depth = record { kind = k; depth = depth }

-- for each level from 0 on two point trees, each level's a bit less deep than those before
abbrev pub level_trees : ℕ → ℕ → List KeySpec
level_trees depth levels = flat_map (λ j. replicate 2 (tree PointTree (depth - j))) (range_with_len 0 levels)

-- the trees of one slot in the first round, for a key of n bits and a range of w bits
abbrev pub slot_trees : PlanKind → Bool → ℕ → ℕ → List KeySpec
slot_trees kind.Sum false n w = tree PointTree n ∷ []
slot_trees kind.Sum true n w = replicate 2 (tree ThresholdTree n)
slot_trees kind.Point range n w = tree PointTree n ∷ []
slot_trees kind.Aligned range n w = level_trees n w
slot_trees kind.Position range n w = replicate 2 (tree ThresholdTree n)

-- the least number of bits, at least 1, that tell so many rows apart
abbrev pub position_bits : ℕ → ℕ
position_bits rows = unwrap_or (find (λ q. nat_le rows (2 ^ q)) (range_with_len 1 18)) 18

-- the trees of one slot in the second round
abbrev pub second_trees : PlanKind → ℕ → List KeySpec
second_trees kind.Position rows = level_trees (position_bits rows) (position_bits rows)
second_trees kind.Sum rows = []
second_trees kind.Point rows = []
second_trees kind.Aligned rows = []

-- the trees of each of some slots, one slot after the other
abbrev pub for_each_slot : ℕ → List KeySpec → List KeySpec
for_each_slot slots trees = flat_map (λ i. trees) (range_with_len 0 slots)

-- how many words come back for so many trees: one cell, or one for each tree, or one word for each
abbrev pub words_back : PlanKind → ℕ → ℕ → ℕ
words_back kind.Sum trees width = width
words_back kind.Point trees width = trees * width
words_back kind.Aligned trees width = trees * width
words_back kind.Position trees width = trees

-- how many rounds there are
abbrev pub rounds_of : PlanKind → ℕ
rounds_of kind.Position = 2
rounds_of kind.Sum = 1
rounds_of kind.Point = 1
rounds_of kind.Aligned = 1

-- a plan of that kind, for so many slots, a key of n bits, a range of w bits, cells of so many words and so many rows
abbrev pub plan_for : PlanKind → Bool → ℕ → ℕ → ℕ → ℕ → ℕ → Plan
plan_for k range slots n w width rows =
    let first = for_each_slot slots (slot_trees k range n w) in
    let second = for_each_slot slots (second_trees k rows) in
    record {
      kind = k;
      rounds = rounds_of k;
      first = first;
      second = second;
      first_words = words_back k (length first) width;
      second_words = length second * width;
    }

-- the plan of a query over tables of that shape: of the rows only their number is in it, and no parameter
abbrev pub plan_of : Checked → ShapeParts → Plan
plan_of checked shape =
    plan_for (kind_of checked shape.schema.columns) checked.range checked.branches checked.bits
    (last_bits shape.schema.columns checked.columns) (cell_width checked.spec) shape.rows
