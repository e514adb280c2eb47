use Rattle.std.proofs.Common.{refl, sym, ap}
use Rattle.sum_bounds.specs.Bounds.{unless_over}
use Rattle.sum_bounds.proofs.First.{none_over, found_over}
use Rattle.sum_bounds.proofs.check_column.Goals as goal

pub returns-in-Ok : goal.returns-in-Ok
returns-in-Ok c = ap (unless_over c.args.column) (sym (none_over c.args.table.now c.args.column (c.in-Ok.ensures.bound.0 refl)))

pub returns-in-Err : goal.returns-in-Err
returns-in-Err c = ap (unless_over c.args.column) (sym (found_over c.args.table.now c.args.column c.in-Err.at.row c.in-Err.at.sum c.in-Err.ensures.first))
