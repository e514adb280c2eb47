use Rattle.client_rounds.proofs.ParamCounts.{words_few, taken_few}
use Rattle.client_rounds.proofs.laws.params_are_few.Goals as goal

pub returns-clause-words : goal.returns-clause-words
returns-clause-words c = words_few

pub returns-clause-codes : goal.returns-clause-codes
returns-clause-codes c = taken_few
