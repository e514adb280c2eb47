-- The parameters of an accepted query.
use Rattle.std.proofs.Common.{◌≡◌, ℕ, zero, suc, ◌*◌, ◌≤◌, Bool, true, false, List, length, arith}
use Rattle.spl_values.specs.Shapes.{SchemaParts}
use Rattle.query_grammar.specs.Canonical.{IsQuery}
use Rattle.query_reader.specs.declared.checked.Checked.{Checked}
use Rattle.query_reader.specs.Accepted.{IsCheckedFor}
use Rattle.query_reader.specs.Matching.{branch_params}
use Rattle.query_reader.specs.Params.{AreParamsFor}
use Rattle.query_reader.proofs.Known.{checked_some, checked_branches}

module _ (checked : Checked) (schema : SchemaParts) (params : List ℕ) (h : IsCheckedFor checked schema) (q : IsQuery checked.query) where
  -- there is a parameter
  pub some_params : AreParamsFor checked schema params → 1 ≤ length params
  some_params are =
      let places = checked_some checked schema h q in
      let branches = (checked_branches checked schema h).0 in
      at_least checked.branches (branch_params checked.columns checked.range) (length params) branches (more_params checked.range) are.count where
        more_params : (range : Bool) → 1 ≤ branch_params checked.columns range
        more_params true = omega arith
        more_params false = let places = checked_some checked schema h q in omega (arith, places)

        at_least : (m n k : ℕ) → 1 ≤ m → 1 ≤ n → k ≡ m * n → 1 ≤ k
        at_least (suc m) (suc n) k a b e = rw e (omega arith)
        at_least zero n k a b e = absurd (omega arith)
        at_least (suc m) zero k a b e = absurd (omega arith)
