use Rattle.std.proofs.Common.{arith}
use Rattle.cell_merge.specs.declared.spec.CellItem.TheVariants.{Count}
use Rattle.cell_merge.proofs.Blocks.{items_width-add-one, items_width-nil, items_width-room}
use Rattle.cell_merge.proofs.widths.block_words.Goals as goal

pub loop-item-init : goal.loop-item-init
loop-item-init c = let e = items_width-nil in omega arith

pub overflow_add-words : goal.overflow_add-words
overflow_add-words c = let e = items_width-room c.args.items.now c.loop-item.item-index Count (omega arith) in omega arith

pub loop-item-preserved : goal.loop-item-preserved
loop-item-preserved c = let e = items_width-add-one c.args.items.now c.loop-item.item-index Count (omega arith) in omega arith
