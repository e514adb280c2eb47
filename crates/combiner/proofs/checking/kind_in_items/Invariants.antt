use Rattle.std.proofs.Common.{◌≡◌, drop}
use Rattle.std.specs.Prelude.{slice_index_or}
use Rattle.std.specs.List.{flat_map}
use Rattle.combiner.specs.declared.checking.WordKind.TheVariants as kind
use Rattle.combiner.specs.GoodWords.{item_kinds}
use Rattle.combiner.proofs.checking.kind_in_items.Given as goal

abbrev pub invariant-loop-item : goal.invariant-loop-item
invariant-loop-item l = slice_index_or (flat_map item_kinds l.items) l.place kind.Sum ≡ slice_index_or (flat_map item_kinds (drop l.item-index l.items)) l.rest kind.Sum
