use Rattle.query_grammar.proofs.Verdict.{verdict_reads, reads_verdict, verdict_faults}
use Rattle.query_grammar.proofs.laws.reading_is_grammar.Goals as goal

pub returns : goal.returns
returns c = record { reads = verdict_reads; only = reads_verdict; fault = verdict_faults }
