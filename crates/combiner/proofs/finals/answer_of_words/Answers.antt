use Rattle.std.proofs.Common.{ap, subst}
use Rattle.spl_values.specs.Shapes.{ShapeParts, IsShape}
use Rattle.combiner.proofs.Merged.{words_read}
use Rattle.combiner.proofs.finals.answer_of_words.Goals as goal

pub answer_of_cell-requires-clause-words : goal.answer_of_cell-requires-clause-words
answer_of_cell-requires-clause-words c =
    let shape = c.args.shape.now in
    let spec = c.args.checked.now.spec in
    let columns = ap (λ (s : ShapeParts). s.schema.columns) c.shape.view_is in
    let is : IsShape shape = subst IsShape c.shape.view_is c.shape.invariant in
    let fits = c.accepted_has_cells.ensures.fits c.args.checked.now shape.schema c.requires.accepted in
    rw (columns, c.deref.ensures.value, c.in_ok-cell.ensures.cell) (words_read spec shape c.args.words.now is fits c.requires.good c.requires.words)
