use Rattle.std.proofs.Common.{subst, arith}
use Rattle.spl_values.specs.Shapes.{IsShape}
use Rattle.combiner.proofs.Plans.{block_fits}
use Rattle.combiner.proofs.finals.check_last.Goals as goal

pub check_words-requires-clause-block : goal.check_words-requires-clause-block
check_words-requires-clause-block c =
    let shape = c.args.shape.now in
    let is : IsShape shape = subst IsShape c.shape.view_is c.shape.invariant in
    let fits = c.accepted_has_cells.ensures.fits c.args.checked.now shape.schema c.requires.accepted in
    let small = block_fits c.args.checked.now.spec shape.schema.columns is.schema.columns fits in
    rw c.as_slice-items.ensures (omega (arith, c.accepted_has_cells.ensures.width c.args.checked.now shape.schema c.requires.accepted, small))
