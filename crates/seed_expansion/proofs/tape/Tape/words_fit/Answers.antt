use Rattle.std.proofs.Common.{subst}
use Rattle.seed_expansion.specs.Tapes.{HasWords}
use Rattle.seed_expansion.specs.Tapes.{Entries, tape_meaning}
use Rattle.seed_expansion.proofs.tape.Tape.words_fit.Goals as goal

pub returns : goal.returns
returns c = subst (λ (t : Entries). HasWords (tape_meaning t)) c.self.view_is c.self.invariant
