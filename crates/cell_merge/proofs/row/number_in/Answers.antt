use Rattle.cell_merge.proofs.RowCells.{numbers_are_words}
use Rattle.cell_merge.proofs.row.number_in.Goals as goal

pub code_word-requires-clause-bits : goal.code_word-requires-clause-bits
code_word-requires-clause-bits c = numbers_are_words c.args.table.now.shape.schema.columns c.args.column c.shape.ensures.valid.shape.schema.columns c.requires.column c.requires.numbers
