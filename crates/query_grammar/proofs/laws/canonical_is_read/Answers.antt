use Rattle.query_grammar.proofs.CanonicalReads.{canonical_reads}
use Rattle.query_grammar.proofs.laws.canonical_is_read.Goals as goal

pub returns : goal.returns
returns c = canonical_reads
