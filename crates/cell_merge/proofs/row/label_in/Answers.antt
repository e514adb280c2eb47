use Rattle.cell_merge.proofs.RowCells.{label_in_row}
use Rattle.cell_merge.proofs.row.label_in.Goals as goal

pub returns-in-Label-clause-label : goal.returns-in-Label-clause-label
returns-in-Label-clause-label c = λ labels h. label_in_row c.args.table.now c.args.row c.args.column c.in-Label.place labels c.shape.ensures.valid c.requires.row c.in-Label.ensures.value h
