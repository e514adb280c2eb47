use Rattle.query_tokens.proofs.Standing.{read_well_formed}
use Rattle.query_tokens.proofs.laws.read_is_well_formed.Goals as goal

pub returns : goal.returns
returns c = read_well_formed
