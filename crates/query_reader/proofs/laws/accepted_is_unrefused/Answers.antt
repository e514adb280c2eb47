use Rattle.query_reader.proofs.Few.{unrefused}
use Rattle.query_reader.proofs.laws.accepted_is_unrefused.Goals as goal

pub returns : goal.returns
returns c = unrefused
