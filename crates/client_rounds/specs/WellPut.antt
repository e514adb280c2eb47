-- Questions that are well put.
use Rattle.std.specs.Prelude.{ℕ, List}
use Rattle.spl_values.specs.Shapes.{ShapeParts, IsShape}
use Rattle.query_tokens.specs.Printing.{IsWellFormed}
use Rattle.query_reader.specs.declared.checked.Checked.{Checked}
use Rattle.query_reader.specs.Accepted.{IsCheckedFor}
use Rattle.query_reader.specs.Params.{AreParamsFor}

-- an accepted query and its parameters, over tables of that shape
pub record IsWellPut (checked : Checked) (shape : ShapeParts) (params : List ℕ) : Type 0 where
  pub valid : IsShape shape
  pub form : IsWellFormed checked.query
  pub accepted : IsCheckedFor checked shape.schema
  pub known : AreParamsFor checked shape.schema params
