use Rattle.std.proofs.Common.{◌+◌, arith}
use Rattle.aligned_ranges.specs.Covers.{range}
use Rattle.aligned_ranges.proofs.Pushing.{pushed_all, pushed_more}
use Rattle.aligned_ranges.proofs.covers.push_all.Goals as goal

pub loop-k-preserved : goal.loop-k-preserved
loop-k-preserved c = record {
  items = pushed_more (λ k. range c.args.level (c.args.base + k)) c.args.ranges.now.items c.loop-k.ranges.items c.push.new.self.items c.args.start c.loop-k.k c.loop-k.auto.k
      c.loop-k.invariant.items c.push.ensures.items;
  count = omega arith;
  most = omega arith;
}

pub returns : goal.returns
returns c = pushed_all (λ k. range c.args.level (c.args.base + k)) c.args.ranges.now.items c.loop-k.ranges.items c.args.start c.loop-k.k c.args.end c.loop-k-test.false c.loop-k.invariant.most
    c.loop-k.invariant.items
