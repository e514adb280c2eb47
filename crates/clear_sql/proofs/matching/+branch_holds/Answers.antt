use Rattle.std.proofs.Common.{◌≡◌, ◌≤◌, true, length, sym, ◌∙◌}
use Rattle.cell_merge.specs.TableRows.{row_in}
use Rattle.clear_sql.proofs.Branches.{at_none, at_end, at_same, at_other, some_behind, tail_of}
use Rattle.clear_sql.proofs.matching.+branch_holds.Goals.{else-range-via-then-range+else-is_empty, else-range-via-else-range}
use Rattle.clear_sql.proofs.matching.+branch_holds.Goals as goal

pub returns-in-empty : goal.returns-in-empty
returns-in-empty n c = sym (at_none c.args.columns.now c.args.range c.args.params.now (row_in c.args.table.now c.args.row) c.in-empty.len_below)

pub returns-in-empty-params : goal.returns-in-empty-params
returns-in-empty-params n c = sym (at_end c.args.columns.now c.args.range c.args.params.now (row_in c.args.table.now c.args.row) c.in-len1-up.len_at_least c.in-empty-params.len_below)

pub returns-then-code_at-param : goal.returns-then-code_at-param
returns-then-code_at-param n c =
    let last : c.args.range ≡ true → 1 ≤ length (tail_of c.args.columns.now) =
    λ r. elim c.else-range.branch [ else-range-via-then-range+else-is_empty w ↦ some_behind (length (tail_of c.args.columns.now)) w.if-is_empty.ensures | else-range-via-else-range w ↦ absurd cc ] in
    c.branch_holds.ensures
    ∙ at_same c.args.columns.now c.args.range c.args.params.now (row_in c.args.table.now c.args.row) c.code_at.result c.in-len1-up.len_at_least c.in-len1-up-params.len_at_least last c.code_at.ensures c.if-code_at-param.true

pub returns-else-code_at-param : goal.returns-else-code_at-param
returns-else-code_at-param n c =
    let last : c.args.range ≡ true → 1 ≤ length (tail_of c.args.columns.now) =
    λ r. elim c.else-range.branch [ else-range-via-then-range+else-is_empty w ↦ some_behind (length (tail_of c.args.columns.now)) w.if-is_empty.ensures | else-range-via-else-range w ↦ absurd cc ] in
    at_other c.args.columns.now c.args.range c.args.params.now (row_in c.args.table.now c.args.row) c.code_at.result c.in-len1-up.len_at_least c.in-len1-up-params.len_at_least last c.code_at.ensures c.if-code_at-param.false
