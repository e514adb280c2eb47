-- In a plan that brings cells, exactly one secret tells a row for which some branch holds.
use Rattle.std.proofs.Common.{◌≡◌, ℕ, Bool, true, false, cond, List, ap, refl, sym, ◌∙◌}
use Rattle.std.specs.Prelude.{nat_le, sum_by, if◌then◌else◌}
use Rattle.std.specs.List.{AllByRecursion, list_all}
use Rattle.spl_values.specs.Shapes.{IsSchema, ShapeParts}
use Rattle.interval_keys.proofs.SlotLaws.{value_slots}
use Rattle.cell_merge.specs.Rows.{Row}
use Rattle.query_grammar.specs.Canonical.{IsQuery}
use Rattle.query_reader.specs.declared.checked.Checked.{Checked}
use Rattle.query_reader.specs.Accepted.{IsCheckedFor}
use Rattle.query_reader.specs.Matching.{some_branch_holds}
use Rattle.query_reader.specs.Params.{AreParamsFor}
use Rattle.query_reader.proofs.Known.{checked_least, checked_some}
use Rattle.private_plan.specs.declared.plans.PlanKind.TheVariants as kind
use Rattle.private_plan.specs.Branches.{RowHasBits, branch_spans, row_key}
use Rattle.private_plan.specs.Plans.{brings_cells, is_sum, kind_for, kind_of, last_bits, plan_of}
use Rattle.private_plan.specs.Slots.{IsPointOf, slots_of}
use Rattle.private_plan.specs.Rounds.{first_round, secrets_in}
use Rattle.private_plan.proofs.Accepted.{slots_are, slots_single, valid_spans}
use Rattle.private_plan.proofs.FirstTrees.{last_inside, last_some}
use Rattle.private_plan.proofs.PointSecrets.{slots_points, slots_tell, told}
use Rattle.private_plan.proofs.Spans.{held_where}

-- a plan of points has no range
point_kind : (sums range : Bool) (w : ℕ) → kind_for sums range w ≡ kind.Point → range ≡ false
point_kind true range w is = absurd cc
point_kind false false w is = refl
point_kind false true w is = absurd (by_test (nat_le w 16) is)
  where
    by_test : (b : Bool) → (if b then kind.Aligned else kind.Position) ≡ kind.Point → ⊥
    by_test true is = cc
    by_test false is = cc

module _ (checked : Checked) (shape : ShapeParts) (params : List ℕ) (schema : IsSchema shape.schema) (accepted : IsCheckedFor checked shape.schema) (form : IsQuery checked.query) (known : AreParamsFor checked shape.schema params)
    (brings : brings_cells (plan_of checked shape).kind ≡ true) where
  abbrev w : ℕ
  w = last_bits shape.schema.columns checked.columns

  pub are_points : AllByRecursion (IsPointOf checked.bits) (secrets_in checked shape params first_round)
  are_points =
      slots_points checked.bits w (last_inside checked shape params accepted form) (kind_of checked shape.schema.columns) checked.range (checked_least checked shape.schema accepted form schema) brings
      (slots_of checked shape.schema.columns params) (slots_are checked shape.schema params accepted form known)

  pub tell_rows : (r : Row) → RowHasBits shape.schema.columns checked.columns r
      → sum_by (told checked.bits (row_key shape.schema.columns checked.columns r)) (secrets_in checked shape params first_round) ≡ cond (some_branch_holds checked.branches checked.columns checked.range params r) 1 0
  tell_rows r room =
      let columns = shape.schema.columns in
      let x = row_key columns checked.columns r in
      let spans = branch_spans columns checked.branches checked.columns checked.range params in
      slots_tell checked.bits w (last_inside checked shape params accepted form) x (kind_of checked columns) checked.range (λ e. last_some checked shape params accepted form schema)
      (point_kind (list_all is_sum checked.spec.items) checked.range w) brings
      (slots_of checked columns params) (slots_are checked shape.schema params accepted form known) (slots_single checked shape.schema params accepted form known)
      ∙ (value_slots spans x (valid_spans checked shape.schema params accepted form known)
      ∙ ap (λ b. cond b 1 0) (sym (held_where columns checked.columns checked.range (checked_some checked shape.schema accepted form) checked.branches params r room known.below)))
