use Rattle.private_plan.proofs.FirstTrees.{secret_count}
use Rattle.client_rounds.proofs.laws.first_rounds_ask_for_few_trees.Goals as goal

pub returns : goal.returns
returns c = λ checked shape params asked. secret_count checked shape params asked.accepted asked.form.form asked.known asked.valid.schema
