use Rattle.std.proofs.Common.{◌≡◌, length, refl, sym, ◌∙◌, arith}
use Rattle.provider_core.proofs.LayoutFaults.{differs_here, same_here, one_missing, none_differs}
use Rattle.provider_core.proofs.layout.layout_differs.Goals as goal

pub loop-place-init : goal.loop-place-init
loop-place-init c = refl

pub returns-then-not-is_placed : goal.returns-then-not-is_placed
returns-then-not-is_placed c =
    sym (differs_here c.args.trees.now c.args.keys.now c.loop-place.place c.index-keys-place.result c.loop-place-test.true c.index-keys-place.is
    (λ placed. absurd (let yes = c.is_placed.ensures.1 placed in cc)))
    ∙ c.loop-place.invariant

pub loop-place-preserved : goal.loop-place-preserved
loop-place-preserved c =
    sym (same_here c.args.trees.now c.args.keys.now c.loop-place.place c.index-keys-place.result c.loop-place-test.true c.index-keys-place.is
    (c.is_placed.ensures.0 c.if-not-is_placed.false))
    ∙ c.loop-place.invariant

pub returns-then-keys-trees : goal.returns-then-keys-trees
returns-then-keys-trees c =
    let end : length c.args.keys.now ≡ c.loop-place.place = omega arith in
    rw end (sym (one_missing c.args.trees.now c.args.keys.now c.loop-place.place (sym end) (omega (arith, end, c.if-keys-trees.true))) ∙ c.loop-place.invariant)

pub returns-else-keys-trees : goal.returns-else-keys-trees
returns-else-keys-trees c =
    let end : c.loop-place.place ≡ length c.args.keys.now = omega arith in
    sym (none_differs c.args.trees.now c.args.keys.now c.loop-place.place end (omega (arith, end, c.if-keys-trees.false))) ∙ c.loop-place.invariant
