use Rattle.std.proofs.Common.{◌≡◌, ◌+◌, ◌-◌, ◌^◌, min, take}
use Rattle.cell_merge.specs.Cells.{items_width}
use Rattle.cell_merge.proofs.widths.width.Given as goal

abbrev pub invariant-loop-item : goal.invariant-loop-item
invariant-loop-item l = l.words ≡ min (1 + items_width (take l.item-index l.item-items)) (2 ^ 64 - 1)
