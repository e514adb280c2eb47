use Rattle.tape_bijection.proofs.MappedLaws.{same_keys}
use Rattle.tape_bijection.proofs.laws.kept_keys_are_the_same.Goals as goal

pub returns-clause-all : goal.returns-clause-all
returns-clause-all c = λ e tape p from to same roots. same_keys e p from to tape same 0 roots

pub returns-clause-later : goal.returns-clause-later
returns-clause-later c = λ e tape p from to same n roots. same_keys e p from to tape same n roots
