use Rattle.std.proofs.Common.{◌≡◌, ◌++◌, drop, map}
use Rattle.query_reader.specs.Refusals.{cell_item}
use Rattle.query_reader.proofs.sizes.cell_items.Given as goal

abbrev pub invariant-loop-item : goal.invariant-loop-item
invariant-loop-item l = l.cells.items ++ map (cell_item l.schema) (drop l.item-index l.items) ≡ map (cell_item l.schema) l.items
