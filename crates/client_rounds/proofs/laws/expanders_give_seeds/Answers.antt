use Rattle.client_rounds.proofs.Seeds.{chacha_seeds, toy_seeds}
use Rattle.client_rounds.proofs.laws.expanders_give_seeds.Goals as goal

pub returns-clause-chacha : goal.returns-clause-chacha
returns-clause-chacha c = chacha_seeds

pub returns-clause-toy : goal.returns-clause-toy
returns-clause-toy c = toy_seeds
