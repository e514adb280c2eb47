use Rattle.std.proofs.Common.{sym, ◌∙◌}
use Rattle.cell_merge.specs.TableRows.{row_in}
use Rattle.clear_sql.proofs.Branches.{branches_found, branches_past, branches_end}
use Rattle.clear_sql.proofs.matching.some_branch_holds.Goals as goal

pub returns-then-branch_holds : goal.returns-then-branch_holds
returns-then-branch_holds c =
    sym (branches_found c.args.branches c.loop-i.i c.param_count-each.result c.args.columns.now c.args.range c.args.params.now (row_in c.args.table.now c.args.row) c.loop-i-test.true c.param_count-each.ensures (sym c.if-branch_holds.ensures))
    ∙ c.loop-i.invariant

pub loop-i-preserved : goal.loop-i-preserved
loop-i-preserved c =
    branches_past c.args.branches c.loop-i.i c.param_count-each.result c.args.columns.now c.args.range c.args.params.now (row_in c.args.table.now c.args.row) c.loop-i-test.true c.param_count-each.ensures (sym c.if-branch_holds.ensures)
    ∙ c.loop-i.invariant

pub returns : goal.returns
returns c =
    sym (branches_end c.args.branches c.loop-i.i c.param_count-each.result c.args.columns.now c.args.range c.args.params.now (row_in c.args.table.now c.args.row) c.loop-i-test.false) ∙ c.loop-i.invariant
