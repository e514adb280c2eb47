use Rattle.judged_queries.proofs.TakenCodes.{passing_is_code, code_passes}
use Rattle.judged_queries.proofs.laws.codes_are_of_values.Goals as goal

pub returns : goal.returns
returns c = λ column code typed. (passing_is_code column code typed, code_passes column code typed)
