use Rattle.std.proofs.Common.{◌≡◌}
use Rattle.spl_words.specs.Secrets.{Secret}
use Rattle.spl_words.specs.declared.secret.TreeKind.TheVariants.{Threshold}
use Rattle.seed_expansion.specs.Walk.{path}
use Rattle.interval_keys.specs.Thresholds.{levels}
use Rattle.interval_keys.proofs.make.make_threshold.Given as goal

abbrev pub invariant-loop-level : goal.invariant-loop-level
invariant-loop-level g l =
    let e = g.E.Expander.meaning l.expander in
    let s : Secret = record { kind = Threshold; depth = l.bits; alpha = l.alpha; beta = l.beta } in
    (l.zero ≡ (path e l.tree s l.roots l.level).0)
    × (l.one ≡ (path e l.tree s l.roots l.level).1)
    × (l.levels ≡ levels e l.tree s l.roots l.level)
