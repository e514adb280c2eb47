use Rattle.std.proofs.Common.{◌+◌, arith, rules}
use Rattle.cell_merge.specs.declared.spec.CellItem.TheVariants.{Count}
use Rattle.cell_merge.proofs.Blocks.{block_all, block_first, block_step, items_width-add-one, items_width-nil, items_width-room}
use Rattle.cell_merge.proofs.merge.merge_one.Goals as goal

pub loop-item-init : goal.loop-item-init
loop-item-init c = record {
  at = let e = items_width-nil in omega arith;
  into = block_first c.args.into.now c.args.from.now _ _ _ (omega arith);
}

pub overflow_add-end : goal.overflow_add-end
overflow_add-end c = let e = items_width-room c.args.items.now c.loop-item.item-index Count (omega arith) in omega arith

pub offset_bounds-into-at : goal.offset_bounds-into-at
offset_bounds-into-at c = let e = items_width-room c.args.items.now c.loop-item.item-index Count (omega arith) in omega arith

pub slice_bounds-merge_words-end : goal.slice_bounds-merge_words-end
slice_bounds-merge_words-end c = let e = items_width-room c.args.items.now c.loop-item.item-index Count (omega arith) in search rules

pub offset_bounds-from-at : goal.offset_bounds-from-at
offset_bounds-from-at c = let e = items_width-room c.args.items.now c.loop-item.item-index Count (omega arith) in omega arith

pub slice_bounds-merge_words-end-in-loop-item : goal.slice_bounds-merge_words-end-in-loop-item
slice_bounds-merge_words-end-in-loop-item c = let e = items_width-room c.args.items.now c.loop-item.item-index Count (omega arith) in search rules

pub loop-item-preserved : goal.loop-item-preserved
loop-item-preserved c = record {
  at = let e = items_width-add-one c.args.items.now c.loop-item.item-index Count (omega arith) in omega arith;
  into = block_step c.args.items.now c.loop-item.item-index Count c.args.into.now c.args.from.now c.loop-item.into c.merge_words.new.into _ _ _ c.loop-item.at (c.loop-item.at + c.item_words.result) (omega arith) c.loop-item.invariant.at (omega arith) c.loop-item.invariant.into c.merge_words.ensures;
}

pub returns : goal.returns
returns c = block_all c.args.items.now c.loop-item.item-index c.args.into.now c.args.from.now c.loop-item.into c.loop-item.at (omega arith) c.requires.into c.loop-item.invariant.at c.loop-item.invariant.into
