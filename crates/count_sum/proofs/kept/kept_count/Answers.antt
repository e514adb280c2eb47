use Rattle.std.proofs.Common.{sym, ◌∙◌, arith}
use Rattle.count_sum.proofs.KeptRows.{count-kept, count-left_out}
use Rattle.count_sum.proofs.kept.kept_count.Goals as goal
use Rattle.count_sum.proofs.kept.kept_count.Goals.{then-is_kept, else-is_kept}

pub loop-row-preserved : goal.loop-row-preserved
loop-row-preserved c =
    elim c.if-is_kept.branch [
      | then-is_kept w ↦ record {
        count = count-kept c.args.checked.now c.args.table.now c.loop-row.row c.loop-row.kept c.if-is_kept.kept (sym c.is_kept.ensures ∙ w.if-is_kept.true) c.loop-row.invariant.count w.kept-is;
        few = omega arith;
      }
      | else-is_kept w ↦ record {
        count = w.kept-is ∙ count-left_out c.args.checked.now c.args.table.now c.loop-row.row c.loop-row.kept (sym c.is_kept.ensures ∙ w.if-is_kept.false) c.loop-row.invariant.count;
        few = omega arith;
      }
    ]
