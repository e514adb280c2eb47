use Rattle.query_tokens.proofs.Writing.{written_is_printed}
use Rattle.query_tokens.proofs.laws.written_is_printed.Goals as goal

pub returns : goal.returns
returns c = written_is_printed
