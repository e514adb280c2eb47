use Rattle.std.proofs.Common.{◌≡◌, ◌-◌, ◌++◌}
use Rattle.std.specs.List.{flat_map, range_with_len}
use Rattle.private_plan.specs.Plans.{level_trees, tree}
use Rattle.spl_words.specs.declared.secret.TreeKind.TheVariants.{Point}
use Rattle.std.specs.Prelude.{replicate}
use Rattle.private_plan.proofs.layout.push_levels.Given as goal

abbrev pub invariant-loop-level : goal.invariant-loop-level
invariant-loop-level l = l.trees.items ++ flat_map (λ j. replicate 2 (tree Point (l.depth - j))) (range_with_len l.level (l.levels - l.level)) ≡ l.initial.trees.items ++ level_trees l.depth l.levels
