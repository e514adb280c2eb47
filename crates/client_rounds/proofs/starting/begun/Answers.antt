use Rattle.std.proofs.Common.{◌∙◌, ◌≤◌, length, refl, sym, ap, arith, subst}
use Rattle.spl_words.specs.declared.provider.Provider.TheVariants.{Zero, One}
use Rattle.spl_values.specs.Shapes.{IsShape}
use Rattle.client_rounds.specs.WellPut.{IsWellPut}
use Rattle.private_plan.specs.declared.plans.Plan.{Plan}
use Rattle.private_plan.proofs.FirstTrees.{secret_count}
use Rattle.private_plan.proofs.SecondRounds.{has_round}
use Rattle.client_rounds.proofs.Begun.{words_for, session_back, roots_again}
use Rattle.client_rounds.proofs.FrameLengths.{round_is}
use Rattle.client_rounds.proofs.starting.begun.Goals as goal

pub overflow_cast-as_slice : goal.overflow_cast-as_slice
overflow_cast-as_slice g c =
    let few = secret_count c.args.checked.now c.args.shape.now c.args.params.now c.requires.accepted c.facts.ensures.form c.requires.params (let valid : IsShape c.args.shape.now = subst IsShape c.shape.view_is c.shape.invariant in valid.schema) in
    omega (arith, ap length (c.as_slice.ensures ∙ (c.in-Ok-round_secrets.ensures.first refl)), few.1)

pub returns-in-Ok-round_with-clause-some : goal.returns-in-Ok-round_with-clause-some
returns-in-Ok-round_with-clause-some g c =
    let count = c.in_ok-drawn.ensures.count ∙ ap length c.as_slice.ensures in
    let session = c.in_ok-drawn.drawn.session in
    let roots = c.in_ok-drawn.drawn.roots in
    (words_for session roots, c.in-Ok-round_with.ensures (words_for session roots) (session_back session roots) (roots_again session c.in-Ok-round_secrets.secrets roots count))

pub returns-in-Ok-round_with-clause-lengths : goal.returns-in-Ok-round_with-clause-lengths
returns-in-Ok-round_with-clause-lengths g c =
    let count = c.in_ok-drawn.ensures.count ∙ ap length c.as_slice.ensures in
    let session = c.in_ok-drawn.drawn.session in
    let roots = c.in_ok-drawn.drawn.roots in
    let words = words_for session roots in
    let of = c.in-Ok-round_with.ensures words (session_back session roots) (roots_again session c.in-Ok-round_secrets.secrets roots count) in
    let asked : IsWellPut c.args.checked.now c.args.shape.now c.args.params.now = record { valid = subst IsShape c.shape.view_is c.shape.invariant; form = c.facts.ensures; accepted = c.requires.accepted; known = c.requires.params } in
    let e = g.E.Expander.meaning c.args.expander.now in
    let round = c.in-Ok-round_with.round in
    (round_is e Zero c.args.checked.now c.args.shape.now c.args.params.now words round.left asked of.left, round_is e One c.args.checked.now c.args.shape.now c.args.params.now words round.right asked of.right)

pub round_secrets-requires-clause-round : goal.round_secrets-requires-clause-round
round_secrets-requires-clause-round g c =
    let some = has_round c.args.checked.now c.args.shape.now in
    (omega arith, subst (λ (p : Plan). 1 ≤ p.rounds) (sym c.in-Ok.ensures) some)
