use Rattle.client_rounds.proofs.NoteSteps.{good_ascii}
use Rattle.client_rounds.proofs.judging.note_of.Goals as goal

pub returns-in-Ok-clause-ascii : goal.returns-in-Ok-clause-ascii
returns-in-Ok-clause-ascii c = good_ascii c.in-Ok.note.query c.in-Ok.ensures.found.allowed.query
