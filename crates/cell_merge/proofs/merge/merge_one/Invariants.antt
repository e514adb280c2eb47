use Rattle.std.proofs.Common.{◌≡◌, ◌+◌, ◌++◌, ◌∷◌, take, drop}
use Rattle.cell_merge.specs.Cells.{items_width, merge_items}
use Rattle.spl_words.specs.Words.{plus}
use Rattle.cell_merge.proofs.merge.merge_one.Given as goal

abbrev pub invariant-loop-item : goal.invariant-loop-item
invariant-loop-item l = record {
  at : l.at ≡ 1 + items_width (take l.item-index l.items);
  into : l.into ≡ (plus l.mine l.theirs ∷ merge_items (take l.item-index l.items) l.mine l.theirs (drop 1 l.fn.into) (drop 1 l.from)) ++ drop l.at l.fn.into;
}
