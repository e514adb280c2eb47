use Rattle.std.proofs.Common.{List, sym, subst, arith, rules}
use Rattle.cell_merge.specs.Rows.{Row}
use Rattle.count_sum.specs.SumPairs.{AreRowCells}
use Rattle.count_sum.proofs.KeptRows.{rows_to, rows_to-more}
use Rattle.count_sum.proofs.Entries.{room}
use Rattle.count_sum.proofs.rows.row_cells.Goals as goal

pub overflow_mul-kept : goal.overflow_mul-kept
overflow_mul-kept c =
    let few = c.shape.ensures.valid.shape.few in
    let narrow = c.accepted_has_cells.ensures.width c.args.checked.now c.args.table.now.shape.schema c.requires in
    let small = room c.kept_count-kept.result c.width-words.result (omega arith) (omega arith) in
    search rules

pub loop-row-preserved : goal.loop-row-preserved
loop-row-preserved c =
    let before = rows_to c.args.table.now c.loop-row.row in
    let after = c.in_ok-add_row.ensures before c.loop-row.invariant in
    subst (λ (rows : List Row). AreRowCells c.args.checked.now c.args.table.now rows c.add_row.new.keys.items c.add_row.new.cells.items) (sym (rows_to-more c.args.table.now c.loop-row.row)) after
