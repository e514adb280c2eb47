use Rattle.tape_bijection.proofs.MappedLaws.{same_origin, there_and_back}
use Rattle.tape_bijection.proofs.laws.map_is_one_to_one.Goals as goal

pub returns-clause-inverse : goal.returns-clause-inverse
returns-clause-inverse c = λ e tape words p from to same. there_and_back e tape words p from to same

pub returns-clause-one : goal.returns-clause-one
returns-clause-one c = λ e e2 tape words tape2 words2 p from to same h. same_origin e e2 tape words tape2 words2 p from to same h
