use Rattle.std.proofs.Common.{◌≡◌, length, add-one, arith}
use Rattle.seed_expansion.specs.Walk.{node}
use Rattle.point_keys.specs.Points.{point_share}
use Rattle.point_keys.proofs.share.point_share.Goals as goal

pub loop-level-init : goal.loop-level-init
unfolding node
loop-level-init g c = cc

pub loop-level-preserved : goal.loop-level-preserved
unfolding node
loop-level-preserved g c = rw add-one (cc)

pub returns : goal.returns
unfolding point_share
returns g c =
    let end : c.loop-level.level ≡ length c.args.key.now.levels = omega arith in
    cc
