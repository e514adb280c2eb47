use Rattle.std.proofs.Common.{[], ◌≤◌}
use Rattle.cell_merge.proofs.Lists.{each_weaker}
use Rattle.private_plan.specs.Plans.{plan_of}
use Rattle.private_plan.proofs.FirstTrees.{HasDepth, first_deep, trees_deep}
use Rattle.private_plan.proofs.laws.trees_begin_with_the_key.Goals as goal

pub returns-clause-first : goal.returns-clause-first
returns-clause-first c = λ checked shape schema accepted form. first_deep checked shape [] accepted form schema

pub returns-clause-inside : goal.returns-clause-inside
returns-clause-inside c = λ checked shape schema accepted form. each_weaker (HasDepth checked.bits) (λ t. (1 ≤ t.depth) × (t.depth ≤ checked.bits)) (λ t d. (d.some, d.most)) (plan_of checked shape).first (trees_deep checked shape [] accepted form schema)
