-- The rounds of a plan: the secrets of their trees, and what a provider folds.
use Rattle.std.specs.Prelude.{ℕ, ◌+◌, ◌-◌, ◌==◌, Bool, List, [], ◌∷◌, length, Option, if◌then◌else◌}
use Rattle.std.specs.List.{flat_map}
use Rattle.spl_words.specs.declared.secret.KeySpec.{KeySpec}
use Rattle.spl_words.specs.Secrets.{Secret}
use Rattle.spl_values.specs.Shapes.{ShapeParts}
use Rattle.interval_keys.specs.Intervals.{Span}
use Rattle.query_reader.specs.declared.checked.Checked.{Checked}
use Rattle.private_plan.specs.declared.plans.Plan.{Plan}
use Rattle.private_plan.specs.declared.plans.PlanKind.{PlanKind}
use Rattle.private_plan.specs.declared.plans.PlanKind.TheVariants as kind
use Rattle.private_plan.specs.Lengths.{trees_in}
use Rattle.private_plan.specs.Plans.{kind_of, last_bits, position_bits}
use Rattle.private_plan.specs.Slots.{slots_of, point_secret, slot_secrets, cover_secrets, count_secrets, position_slots}

-- a round: its number, and the counts that the first round told, if it is the second
pub record Round : Type 0 where
  pub number : ℕ
  pub counts : List ℕ

-- the first round
abbrev pub first_round : Round
first_round = record { number = 1; counts = [] }

-- the number of a round's first tree: those of the second round follow on
abbrev pub first_tree : Plan → ℕ → ℕ
first_tree plan round = if round == 2 then length plan.first else 0

-- ---- secrets

-- the secrets of a slot in the first round: of a key of n bits, whose last column has w
abbrev pub first_secrets : PlanKind → Bool → ℕ → ℕ → Option Span → List Secret
first_secrets kind.Sum range n w slot = slot_secrets range n slot
first_secrets kind.Point range n w slot = point_secret n slot ∷ []
first_secrets kind.Aligned range n w slot = cover_secrets n w slot
first_secrets kind.Position range n w slot = count_secrets n slot

-- the secrets of a second round over tables of so many rows
abbrev pub second_secrets : ℕ → List ℕ → List Secret
second_secrets rows counts = flat_map (cover_secrets (position_bits rows) (position_bits rows)) (position_slots counts)

-- the secrets of a round's trees, slot by slot
abbrev pub secrets_in : Checked → ShapeParts → List ℕ → Round → List Secret
secrets_in checked shape params round =
    if round.number == 2
    then second_secrets shape.rows round.counts
    else flat_map (first_secrets (kind_of checked shape.schema.columns) checked.range checked.bits (last_bits shape.schema.columns checked.columns)) (slots_of checked shape.schema.columns params)

-- ---- folds

-- what a fold runs over: the kept rows with their cells; the kept rows with the word 1; the cells by joined key, or by position, without so many lowest bits
pub data Entries : Type 0 where
  rows : Entries
  ones : Entries
  by_key : ℕ → Entries
  by_position : ℕ → Entries

-- some keys of a round, from one on, whose shares are added, and what they are folded over
pub record Fold : Type 0 where
  pub first : ℕ
  pub count : ℕ
  pub entries : Entries

-- a fold for each tree, counted from i
unfoldable pub each_tree : (KeySpec → Entries) → ℕ → List KeySpec → List Fold
each_tree entries i [] = []
each_tree entries i (t ∷ ts) = record { first = i; count = 1; entries = entries t } ∷ each_tree entries (i + 1) ts

-- the depth of the first of some trees
abbrev pub first_depth : List KeySpec → ℕ
first_depth [] = 0
first_depth (t ∷ ts) = t.depth

-- the folds of a round with these trees: one of all keys for a sum, and else one for each key; a tree that is less deep than the first one is of a higher level
abbrev pub folds_for : PlanKind → ℕ → List KeySpec → List Fold
folds_for kind.Sum round trees = record { first = 0; count = length trees; entries = rows } ∷ []
folds_for kind.Point round trees = each_tree (λ t. by_key 0) 0 trees
folds_for kind.Aligned round trees = each_tree (λ t. by_key (first_depth trees - t.depth)) 0 trees
folds_for kind.Position round trees = each_tree (λ t. if round == 2 then by_position (first_depth trees - t.depth) else ones) 0 trees

-- the folds of a plan's round
abbrev pub folds_in : Plan → ℕ → List Fold
folds_in plan round = folds_for plan.kind round (trees_in plan round)
