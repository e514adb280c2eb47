use Rattle.std.proofs.Common.{◌≡◌}
use Rattle.seed_expansion.specs.Walk.{node}
use Rattle.interval_keys.specs.Thresholds.{terms, corrections_in}
use Rattle.interval_keys.proofs.share.threshold_share.Given as goal

abbrev pub invariant-loop-level : goal.invariant-loop-level
invariant-loop-level g l =
    (l.node ≡ node (g.E.Expander.meaning l.expander) l.provider l.tree l.depth l.key.root (corrections_in l.key.levels) l.x l.level)
    × (l.sum ≡ terms (g.E.Expander.meaning l.expander) l.provider l.tree l.key l.x l.level)
