use Rattle.judged_queries.proofs.TakenCodes.{words_are_codes}
use Rattle.judged_queries.proofs.laws.codes_of_words_are_taken.Goals as goal

pub returns : goal.returns
returns c = words_are_codes
