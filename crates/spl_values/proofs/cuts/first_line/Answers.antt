use Rattle.spl_values.proofs.LineCuts.{lines_step}
use Rattle.spl_values.proofs.cuts.first_line.Goals as goal

pub returns-in-Some-clause-line : goal.returns-in-Some-clause-line
returns-in-Some-clause-line c =
    let split = rw c.in-Some.is at c.cut.ensures.split in
    rw c.without_return.ensures (lines_step c.args.text.now c.cut.result.0.now c.in-Some.rest.now split)
