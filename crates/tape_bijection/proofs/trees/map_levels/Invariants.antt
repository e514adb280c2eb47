use Rattle.std.proofs.Common.{◌≡◌}
use Rattle.std.specs.Prelude.{is_some}
use Rattle.seed_expansion.specs.declared.nodes.Place.{Place}
use Rattle.seed_expansion.specs.Tapes.{block_at, leaf_at, or_no_block, tape_meaning}
use Rattle.seed_expansion.specs.Walk.{corrections, node, path}
use Rattle.tape_bijection.specs.Mapped.{mapped_blocks}
use Rattle.tape_bijection.specs.Entered.{has_block_after}
use Rattle.tape_bijection.proofs.trees.map_levels.Given as goal

abbrev pub invariant-loop-level : goal.invariant-loop-level
invariant-loop-level l =
    let e = tape_meaning l.fn.tape in
    let s = l.from in
    ((q : Place) → or_no_block (block_at l.tape q) ≡ mapped_blocks s.kind e l.provider l.tree s l.to l.level q 0)
    × ((q : Place) → leaf_at l.tape q ≡ leaf_at l.fn.tape q)
    × (l.zero ≡ (path e l.tree s (0, 0) l.level).0)
    × (l.one ≡ (path e l.tree s (0, 0) l.level).1)
    × (l.kept ≡ node e l.provider l.tree s.depth 0 (corrections e l.tree s (0, 0) s.depth) l.to.alpha l.level)
    × ((q : Place) → is_some (block_at l.tape q) ≡ has_block_after l.level l.fn.tape l.provider l.tree s l.to q)
