use Rattle.std.proofs.Common.{refl, sym, ◌∙◌}
use Rattle.std.proofs.lemmas.Result.{err_from_is_err_and}
use Rattle.cell_merge.specs.declared.spec.CellItem.TheVariants.{Count}
use Rattle.sum_bounds.proofs.Items.{fails_here, passes_here, none_left}
use Rattle.sum_bounds.proofs.check_sums.Goals as goal

pub loop-item-init : goal.loop-item-init
loop-item-init c = refl

pub returns-in_err-check_item : goal.returns-in_err-check_item
returns-in_err-check_item c =
    let p = err_from_is_err_and c.from_residual.result c.from_residual.ensures.1 in
    let here = fails_here c.args.table.now c.args.items.now c.loop-item.item-index Count c.in_err-check_item.field-0.0 c.loop-item-test.true (sym c.check_item.ensures ∙ c.in_err-check_item.was) in
    rw (p.1, p.2) (sym here ∙ c.loop-item.invariant)

pub loop-item-preserved : goal.loop-item-preserved
loop-item-preserved c =
    let here = passes_here c.args.table.now c.args.items.now c.loop-item.item-index Count c.in_ok-check_item.field-0 c.loop-item-test.true (sym c.check_item.ensures ∙ c.in_ok-check_item.was) in
    sym here ∙ c.loop-item.invariant

pub returns : goal.returns
returns c = sym (none_left c.args.table.now c.args.items.now c.loop-item.item-index c.loop-item-test.false) ∙ c.loop-item.invariant
