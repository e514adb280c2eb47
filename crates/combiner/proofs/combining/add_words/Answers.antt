use Rattle.std.proofs.Common.{◌∙◌, arith}
use Rattle.combiner.proofs.Adding.{adds_more, adds_all}
use Rattle.combiner.proofs.combining.add_words.Goals as goal

pub loop-i-preserved : goal.loop-i-preserved
loop-i-preserved c =
    rw (c.in_ok-push.ensures.items, c.plus.ensures) (adds_more c.args.zero.now c.args.one.now c.loop-i.sums.items c.loop-i.i c.loop-i-test.true (omega arith) c.loop-i.invariant)

pub returns : goal.returns
returns c = c.from_vec.ensures ∙ adds_all c.args.zero.now c.args.one.now c.loop-i.sums.items c.loop-i.i (omega arith) c.loop-i.invariant
