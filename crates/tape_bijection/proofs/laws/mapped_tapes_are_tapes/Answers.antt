use Rattle.tape_bijection.proofs.MappedWords.{stays_tape, stays_words}
use Rattle.tape_bijection.proofs.laws.mapped_tapes_are_tapes.Goals as goal

pub returns-clause-tape : goal.returns-clause-tape
returns-clause-tape c = λ e tape p from to. stays_tape e p from to tape

pub returns-clause-words : goal.returns-clause-words
returns-clause-words c = λ e words p from to. stays_words e p from to words
