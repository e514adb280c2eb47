-- What a command is over that is ready.
use Rattle.std.specs.Prelude.{◌≡◌, Ok}
use Rattle.splinter_steps.specs.Questions.{IsAsked}
use Rattle.sum_bounds.specs.Bounds.{sums_bounded}
use Rattle.splinter_commands.specs.declared.keys.Question.{Question}
use Rattle.splinter_commands.specs.declared.trace.Traced.{Traced}

-- an accepted query for the shape whose plan is built, and its parameters
abbrev pub IsQuestion : Question → Type 0
IsQuestion q = IsAsked q.shape q.asked

-- the same for the shape of the table, whose sums are within their bounds
pub record IsTraced (t : Traced) : Type 0 where
  pub asked : IsAsked t.table.shape t.asked
  pub bounded : sums_bounded t.table t.asked.checked.spec.items ≡ Ok tt
