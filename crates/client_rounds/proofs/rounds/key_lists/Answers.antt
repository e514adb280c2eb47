use Rattle.std.proofs.Common.{◌∙◌, ◌<◌, ◌++◌, [], ◌∷◌, length, ap, refl, arith}
use Rattle.client_rounds.proofs.KeyLoop.{made_next, made_all}
use Rattle.client_rounds.proofs.rounds.key_lists.Goals as goal

pub loop-i-preserved : goal.loop-i-preserved
loop-i-preserved g c =
    let there : c.loop-i.i < length c.args.roots.now = omega (arith, c.requires.roots, c.loop-i-test.true) in
    record {
      zero = made_next _ _ _ _ _ c.loop-i.i c.loop-i.zeros c.push.new.self c.index-secrets-i.result _ (0, 0) c.loop-i-test.true there c.index-secrets-i.is refl (c.in_ok-push.ensures.ok ∙ ap (λ k. c.loop-i.zeros ++ k ∷ []) c.in_ok-zero.ensures.zero) c.loop-i.invariant.zero;
      one = made_next _ _ _ _ _ c.loop-i.i c.loop-i.ones c.push-in-loop-i.new.self c.index-secrets-i.result _ (0, 0) c.loop-i-test.true there c.index-secrets-i.is refl (c.in_ok-push-2.ensures.ok ∙ ap (λ k. c.loop-i.ones ++ k ∷ []) c.in_ok-zero.ensures.one) c.loop-i.invariant.one;
    }

pub returns-clause-zero : goal.returns-clause-zero
returns-clause-zero g c = made_all _ _ _ _ _ c.loop-i.i c.loop-i.zeros c.loop-i-test.false c.loop-i.invariant.zero

pub returns-clause-one : goal.returns-clause-one
returns-clause-one g c = made_all _ _ _ _ _ c.loop-i.i c.loop-i.ones c.loop-i-test.false c.loop-i.invariant.one
