use Rattle.spl_values.proofs.CodeLaws.{text_bytes}
use Rattle.spl_values.proofs.CellLaws.{text_fits}
use Rattle.spl_values.proofs.cells.value_of.Goals as goal

pub returns-in-Text-clause-fits : goal.returns-in-Text-clause-fits
returns-in-Text-clause-fits c =
    let typed = rw c.in-Text.is at c.requires in
    rw c.in-Text.is (text_fits c.in-Text.bytes c.args.text.now c.text_in.result (text_bytes c.in-Text.bytes typed).1 c.text_in.ensures)
