use Rattle.query_grammar.proofs.Kept.{reads_query}
use Rattle.query_grammar.proofs.laws.read_is_query.Goals as goal

pub returns : goal.returns
returns c = reads_query
