use Rattle.std.proofs.Common.{◌≤◌}
use Rattle.spl_words.specs.Secrets.{Secret, secret_tree}
use Rattle.cell_merge.proofs.Lists.{each_weaker}
use Rattle.private_plan.specs.Rounds.{first_round, secrets_in}
use Rattle.private_plan.proofs.FirstTrees.{HasDepth, secret_count, secret_depths}
use Rattle.private_plan.proofs.laws.first_rounds_ask_for_few_trees.Goals as goal

pub returns-clause-few : goal.returns-clause-few
returns-clause-few c = λ checked shape params schema accepted form known. secret_count checked shape params accepted form known schema

pub returns-clause-levels : goal.returns-clause-levels
returns-clause-levels c = λ checked shape params schema accepted form known.
    each_weaker (λ (s : Secret). HasDepth 128 (secret_tree s)) (λ (s : Secret). (1 ≤ s.depth) × (s.depth ≤ 128)) (λ s d. (d.some, d.most)) (secrets_in checked shape params first_round) (secret_depths checked shape params accepted form known schema)
