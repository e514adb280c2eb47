use Rattle.std.proofs.Common.{◌≤◌}
use Rattle.spl_words.specs.Secrets.{Secret, secret_tree}
use Rattle.cell_merge.proofs.Lists.{each_weaker}
use Rattle.private_plan.specs.Rounds.{secrets_in}
use Rattle.private_plan.proofs.FirstTrees.{HasDepth}
use Rattle.private_plan.proofs.SecondRounds.{second_count, second_depths, second_first}
use Rattle.private_plan.proofs.laws.second_rounds_ask_for_few_trees.Goals as goal

pub returns-clause-few : goal.returns-clause-few
returns-clause-few c = λ checked shape params counts accepted is many. second_count checked shape is params counts many accepted

pub returns-clause-levels : goal.returns-clause-levels
returns-clause-levels c = λ checked shape params counts is many.
    each_weaker (λ (s : Secret). HasDepth 18 (secret_tree s)) (λ (s : Secret). (1 ≤ s.depth) × (s.depth ≤ 18)) (λ s d. (d.some, d.most)) (secrets_in checked shape params (record { number = 2; counts = counts })) (second_depths checked shape is params counts many)

pub returns-clause-first : goal.returns-clause-first
returns-clause-first c = λ checked shape accepted is. second_first checked shape is accepted
