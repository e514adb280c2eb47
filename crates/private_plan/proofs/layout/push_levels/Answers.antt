use Rattle.std.proofs.Common.{◌-◌, ◌++◌, ap}
use Rattle.std.specs.Prelude.{replicate}
use Rattle.spl_words.specs.declared.secret.TreeKind.TheVariants.{Point}
use Rattle.private_plan.specs.Plans.{level_trees, tree}
use Rattle.private_plan.proofs.Loops.{next_turn}
use Rattle.private_plan.proofs.layout.push_levels.Goals as goal

pub loop-level-preserved : goal.loop-level-preserved
loop-level-preserved c =
    let added = c.in_ok-push_twice.ensures.trees in
    rw added (next_turn (λ j. replicate 2 (tree Point (c.args.depth - j))) c.loop-level.trees.items (replicate 2 c.tree.result) (c.args.trees.now.items ++ level_trees c.args.depth c.args.levels)
    c.loop-level.level c.args.levels c.loop-level-test.true (ap (replicate 2) c.tree.ensures) c.loop-level.invariant)
