use Rattle.std.proofs.Common.{slice_index, sym, ◌∙◌}
use Rattle.cell_merge.specs.TableRows.{row_in}
use Rattle.clear_sql.proofs.Branches.{low_enough, too_low, range_some, range_none}
use Rattle.clear_sql.proofs.matching.range_holds.Goals as goal

pub returns-in_default : goal.returns-in_default
returns-in_default c = sym (range_none c.args.column c.args.params.now (row_in c.args.table.now c.args.row) c.in_default.len_below)

pub returns-then-least-code : goal.returns-then-least-code
returns-then-least-code c =
    let code = c.code_at-code.result in
    let whole = range_some c.args.column code c.args.params.now (row_in c.args.table.now c.args.row) c.in-len2-up.len_at_least (sym c.code_at-code.ensures) in
    sym (whole ∙ low_enough (slice_index c.args.params.now 0) (slice_index c.args.params.now 1) code c.if-least-code.true)

pub returns-else-least-code : goal.returns-else-least-code
returns-else-least-code c =
    let code = c.code_at-code.result in
    let whole = range_some c.args.column code c.args.params.now (row_in c.args.table.now c.args.row) c.in-len2-up.len_at_least (sym c.code_at-code.ensures) in
    sym (whole ∙ too_low (slice_index c.args.params.now 0) (slice_index c.args.params.now 1) code c.if-least-code.false)
