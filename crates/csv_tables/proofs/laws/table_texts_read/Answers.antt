use Rattle.csv_tables.proofs.Saying.{table_says, says_table}
use Rattle.csv_tables.proofs.laws.table_texts_read.Goals as goal

pub returns : goal.returns
returns c text shape rows = (table_says text shape rows, says_table text shape rows)
