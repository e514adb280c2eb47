use Rattle.std.proofs.Common.{◌≡◌, ◌+◌, ◌-◌, ◌*◌, ◌^◌, min, take, arith, ap, ◌∙◌}
use Rattle.std.proofs.lemmas.List.{take_all}
use Rattle.cell_merge.specs.declared.spec.CellItem.TheVariants.{Count}
use Rattle.cell_merge.specs.Cells.{items_width}
use Rattle.cell_merge.proofs.Blocks.{items_width-add-one, items_width-nil, saturated}
use Rattle.cell_merge.proofs.widths.width.Goals as goal

pub loop-item-init : goal.loop-item-init
loop-item-init c = let e = items_width-nil in omega arith

pub loop-item-preserved : goal.loop-item-preserved
loop-item-preserved c = let e = items_width-add-one c.as_slice-item-items.result.now c.loop-item.item-index Count (omega arith) in omega arith

pub returns : goal.returns
returns c =
    let items = c.as_slice-item-items.result.now in
    let all : take c.loop-item.item-index items ≡ c.args.spec.now.items = take_all c.loop-item.item-index items (omega arith) ∙ c.as_slice-item-items.ensures in
    let one : c.loop-item.words ≡ min (1 + items_width c.args.spec.now.items) (2 ^ 64 - 1) = c.loop-item.invariant ∙ ap (λ l. min (1 + items_width l) (2 ^ 64 - 1)) all in
    c.saturating_mul.ensures
    ∙ (saturated (1 + items_width c.args.spec.now.items) c.block_count.result c.loop-item.words (2 ^ 64 - 1) one
    ∙ ap (λ n. min (n * (1 + items_width c.args.spec.now.items)) (2 ^ 64 - 1)) c.block_count.ensures)
