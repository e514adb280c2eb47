use Rattle.std.proofs.Common.{◌≡◌, ◌+◌, ◌++◌, ◌∷◌, [], take, drop}
use Rattle.cell_merge.specs.Cells.{items_width, items_words}
use Rattle.cell_merge.specs.TableRows.{adds_in, row_in}
use Rattle.cell_merge.proofs.row.row_block.Given as goal

abbrev pub invariant-loop-item : goal.invariant-loop-item
invariant-loop-item l = record {
  at : l.at ≡ 1 + items_width (take l.item-index l.items);
  out : l.out ≡ (1 ∷ items_words (adds_in l.table.shape.schema.columns) (take l.item-index l.items) (row_in l.table l.row ∷ [])) ++ drop l.at l.fn.out;
}
