use Rattle.std.proofs.Common.{arith, ◌∙◌, ap, length, [], ◌∷◌, length-append}
use Rattle.client_rounds.proofs.Drawing.{drew_one, drew_next, drew_all}
use Rattle.client_rounds.proofs.draws.draw_roots.Goals as goal

pub returns-in-Err-push-clause-told : goal.returns-in-Err-push-clause-told
returns-in-Err-push-clause-told g c =
    drew_one (g.R.Draw.words c.args.draw.now) (g.R.Draw.words c.loop.draw) (g.R.Draw.words c.draw_tree.new.draw) c.args.count c.loop.counter c.loop.roots c.in-Ok.tree c.loop-test.true c.loop.invariant.told c.in-Ok.ensures.told

pub loop-preserved : goal.loop-preserved
loop-preserved g c = record {
  same = c.in-Ok.ensures.cause.quiet (λ failed. cc) ∙ c.loop.invariant.same;
  told = drew_next (g.R.Draw.words c.args.draw.now) (g.R.Draw.words c.loop.draw) (g.R.Draw.words c.draw_tree.new.draw) c.args.count c.loop.counter c.loop.roots c.push.new.self c.in-Ok.tree c.loop-test.true c.in-Ok-push.ensures.ok c.loop.invariant.told c.in-Ok.ensures.told;
  count = ap length c.in-Ok-push.ensures.ok ∙ omega (arith, length-append c.loop.roots (c.in-Ok.tree ∷ []), c.loop.invariant.count);
}

pub returns-clause-told : goal.returns-clause-told
returns-clause-told g c = drew_all (g.R.Draw.words c.args.draw.now) (g.R.Draw.words c.loop.draw) c.args.count c.loop.counter c.loop.roots c.loop-test.false (omega arith) c.loop.invariant.told
