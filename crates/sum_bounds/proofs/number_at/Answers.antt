use Rattle.std.proofs.Common.{◌∙◌}
use Rattle.sum_bounds.proofs.Steps.{number-is}
use Rattle.sum_bounds.proofs.number_at.Goals as goal

pub returns : goal.returns
returns c = c.number_of.ensures ∙ number-is c.args.table.now c.args.row c.args.column c.value.result c.shape.ensures.valid c.requires.row c.requires.column c.value.ensures.value c.value.ensures.fits
