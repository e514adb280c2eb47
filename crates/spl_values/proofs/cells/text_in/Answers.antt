use Rattle.std.proofs.Common.{sym, arith}
use Rattle.spl_values.proofs.CellLaws.{all_printable}
use Rattle.spl_values.proofs.cells.text_in.Goals as goal

pub keep-requires : goal.keep-requires
keep-requires c = (all_printable c.args.text.now (sym c.in-None.ensures), omega arith)
