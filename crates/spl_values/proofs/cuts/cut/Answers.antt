use Rattle.std.proofs.Common.{◌==◌, sym}
use Rattle.spl_values.proofs.LineCuts.{split_at_place, split_nowhere}
use Rattle.spl_values.proofs.cuts.cut.Goals as goal

pub returns-in-Some-clause-split : goal.returns-in-Some-clause-split
returns-in-Some-clause-split c = split_at_place (λ b. b == c.args.at) c.args.text.now c.in-Some.place (sym c.in-Some.ensures.place)

pub returns-in-None-clause-split : goal.returns-in-None-clause-split
returns-in-None-clause-split c = split_nowhere (λ b. b == c.args.at) c.args.text.now (sym c.in-None.ensures.place)
