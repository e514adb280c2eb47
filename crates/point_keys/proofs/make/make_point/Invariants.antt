use Rattle.std.proofs.Common.{◌≡◌}
use Rattle.spl_words.specs.Secrets.{Secret}
use Rattle.spl_words.specs.declared.secret.TreeKind.TheVariants.{Point}
use Rattle.seed_expansion.specs.Walk.{path, corrections}
use Rattle.point_keys.proofs.make.make_point.Given as goal

abbrev pub invariant-loop-level : goal.invariant-loop-level
invariant-loop-level g l =
    let e = g.E.Expander.meaning l.expander in
    let s : Secret = record { kind = Point; depth = l.bits; alpha = l.alpha; beta = l.beta } in
    (l.zero ≡ (path e l.tree s l.roots l.level).0)
    × (l.one ≡ (path e l.tree s l.roots l.level).1)
    × (l.levels ≡ corrections e l.tree s l.roots l.level)
