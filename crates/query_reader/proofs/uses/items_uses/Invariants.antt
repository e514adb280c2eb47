use Rattle.std.proofs.Common.{◌≡◌, ◌++◌, drop}
use Rattle.std.specs.List.{flat_map}
use Rattle.query_reader.specs.Uses.{item_uses}
use Rattle.query_reader.proofs.uses.items_uses.Given as goal

abbrev pub invariant-loop-item : goal.invariant-loop-item
invariant-loop-item l = l.uses.items ++ flat_map item_uses (drop l.item-index l.items) ≡ l.initial.uses.items ++ flat_map item_uses l.items
