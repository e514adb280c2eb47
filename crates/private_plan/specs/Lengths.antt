-- How long a key frame is.
use Rattle.std.specs.Prelude.{ℕ, ◌+◌, ◌==◌, List, if◌then◌else◌}
use Rattle.std.specs.List.{sum_by}
use Rattle.spl_words.specs.declared.secret.KeySpec.{KeySpec}
use Rattle.key_frames.specs.Trees.{tree_length}
use Rattle.private_plan.specs.declared.plans.Plan.{Plan}

-- the trees of a round
abbrev pub trees_in : Plan → ℕ → List KeySpec
trees_in plan round = if round == 2 then plan.second else plan.first

-- the bytes of a key frame with texts of these lengths
abbrev pub frame_length : Plan → ℕ → ℕ → ℕ → ℕ
frame_length plan round query shape = 61 + query + shape + sum_by tree_length (trees_in plan round)
