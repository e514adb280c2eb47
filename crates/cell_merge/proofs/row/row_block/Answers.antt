use Rattle.std.proofs.Common.{◌+◌, ◌∷◌, [], arith, rules}
use Rattle.cell_merge.specs.declared.spec.CellItem.TheVariants.{Count}
use Rattle.cell_merge.specs.TableRows.{adds_in, row_in}
use Rattle.cell_merge.specs.Cells.{items_width}
use Rattle.cell_merge.proofs.Blocks.{items_width-add-one, items_width-nil, items_width-room}
use Rattle.cell_merge.proofs.RowCells.{row_block_first, row_block_zeros, row_block_step, row_block_all, zeros_length}
use Rattle.cell_merge.proofs.row.row_block.Goals as goal

pub loop-item-init : goal.loop-item-init
loop-item-init c = record {
  at = let e = items_width-nil in omega arith;
  out = row_block_first (adds_in c.args.table.now.shape.schema.columns) c.args.out.now (items_width c.args.items.now) (row_in c.args.table.now c.args.row ∷ []) c.requires.zeros;
}

pub overflow_add-end : goal.overflow_add-end
overflow_add-end c =
    let e = items_width-room c.args.items.now c.loop-item.item-index Count (omega arith) in
    let len = zeros_length _ c.args.out.now c.requires.zeros in
    omega arith

pub offset_bounds-out-at : goal.offset_bounds-out-at
offset_bounds-out-at c =
    let e = items_width-room c.args.items.now c.loop-item.item-index Count (omega arith) in
    let len = zeros_length _ c.args.out.now c.requires.zeros in
    omega arith

pub slice_bounds-row_words-end : goal.slice_bounds-row_words-end
slice_bounds-row_words-end c =
    let e = items_width-room c.args.items.now c.loop-item.item-index Count (omega arith) in
    let len = zeros_length _ c.args.out.now c.requires.zeros in
    search rules

pub row_words-requires-clause-zeros : goal.row_words-requires-clause-zeros
row_words-requires-clause-zeros c =
    row_block_zeros (adds_in c.args.table.now.shape.schema.columns) c.args.items.now c.loop-item.item-index Count (row_in c.args.table.now c.args.row ∷ []) c.args.out.now c.loop-item.out c.loop-item.at (c.loop-item.at + c.item_words.result)
    (omega arith) c.loop-item.invariant.at (omega arith) c.requires.zeros c.loop-item.invariant.out

pub loop-item-preserved : goal.loop-item-preserved
loop-item-preserved c = record {
  at = let e = items_width-add-one c.args.items.now c.loop-item.item-index Count (omega arith) in omega arith;
  out = row_block_step (adds_in c.args.table.now.shape.schema.columns) c.args.items.now c.loop-item.item-index Count (row_in c.args.table.now c.args.row ∷ []) c.args.out.now c.loop-item.out c.row_words.new.out c.loop-item.at (c.loop-item.at + c.item_words.result)
      (omega arith) c.loop-item.invariant.at (omega arith) c.loop-item.invariant.out c.row_words.ensures;
}

pub returns : goal.returns
returns c =
    row_block_all (adds_in c.args.table.now.shape.schema.columns) c.args.items.now c.loop-item.item-index (row_in c.args.table.now c.args.row) c.args.out.now c.loop-item.out c.loop-item.at (omega arith) c.loop-item.invariant.at c.requires.zeros c.loop-item.invariant.out
