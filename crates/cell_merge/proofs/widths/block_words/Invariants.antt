use Rattle.std.proofs.Common.{◌≡◌, ◌+◌, take}
use Rattle.cell_merge.specs.Cells.{items_width}
use Rattle.cell_merge.proofs.widths.block_words.Given as goal

abbrev pub invariant-loop-item : goal.invariant-loop-item
invariant-loop-item l = l.words ≡ 1 + items_width (take l.item-index l.items)
