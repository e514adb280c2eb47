use Rattle.csv_tables.proofs.RoundTrip.{written_tables_read}
use Rattle.csv_tables.proofs.laws.written_tables_read.Goals as goal

pub returns : goal.returns
returns c = written_tables_read
