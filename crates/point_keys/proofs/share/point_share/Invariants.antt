use Rattle.std.proofs.Common.{◌≡◌}
use Rattle.seed_expansion.specs.Walk.{node}
use Rattle.point_keys.proofs.share.point_share.Given as goal

abbrev pub invariant-loop-level : goal.invariant-loop-level
invariant-loop-level g l =
    l.node ≡ node (g.E.Expander.meaning l.expander) l.provider l.tree l.depth l.key.root l.key.levels l.x l.level
