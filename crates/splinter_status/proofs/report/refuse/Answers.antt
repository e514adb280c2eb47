use Rattle.splinter_status.proofs.Lines.{line_told}
use Rattle.splinter_status.proofs.report.refuse.Goals as goal

pub returns-in_default-status-clause-told : goal.returns-in_default-status-clause-told
returns-in_default-status-clause-told g c = rw (c.as_bytes.ensures.value, c.in-Ok.ensures.line, c.in-Ok.ensures.status) at c.print.ensures.told

pub returns-in_default-status-clause-line : goal.returns-in_default-status-clause-line
returns-in_default-status-clause-line g c =
    let told = rw (c.as_bytes.ensures.value, c.in-Ok.ensures.line, c.in-Ok.ensures.status) at c.print.ensures.told in
    line_told _ _ _ _ told
