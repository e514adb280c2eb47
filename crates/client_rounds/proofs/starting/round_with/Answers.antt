use Rattle.std.proofs.Common.{◌≡◌, length, ap, sym, subst, arith}
use Rattle.spl_words.specs.declared.provider.Provider.TheVariants.{Zero, One}
use Rattle.spl_values.specs.Shapes.{IsShape}
use Rattle.key_frames.specs.Frames.{FrameAllowed}
use Rattle.private_plan.specs.declared.plans.Plan.{Plan}
use Rattle.client_rounds.specs.WellPut.{IsWellPut}
use Rattle.private_plan.proofs.FirstTrees.{secret_count}
use Rattle.client_rounds.proofs.Allowed.{frame_allowed}
use Rattle.client_rounds.proofs.Written.{made_for, has_params}
use Rattle.client_rounds.proofs.Begun.{Begun, round_begun}
use Rattle.client_rounds.proofs.starting.round_with.Goals as goal

pub round_frames-requires-clause-trees : goal.round_frames-requires-clause-trees
round_frames-requires-clause-trees g c =
    let few = secret_count c.args.checked.now c.args.shape.now c.args.params.now c.requires.accepted c.facts.ensures.form c.requires.params (let valid : IsShape c.args.shape.now = subst IsShape c.shape.view_is c.shape.invariant in valid.schema) in
    omega (arith, ap length c.requires.secrets, few.1)

pub frame_bytes-requires : goal.frame_bytes-requires
frame_bytes-requires g c =
    let asked : IsWellPut c.args.checked.now c.args.shape.now c.args.params.now = record { valid = subst IsShape c.shape.view_is c.shape.invariant; form = c.facts.ensures; accepted = c.requires.accepted; known = c.requires.params } in
    let may = made_for c.args.checked.now c.args.shape.now c.args.params.now asked c.in_ok-print_query.field-0 c.args.secrets.now c.args.drawn.now.roots c.in_ok-print_query.ensures.text c.requires.secrets c.requires.roots in
    subst FrameAllowed (sym c.in_ok-zero.ensures.zero) (frame_allowed _ Zero c.args.drawn.now.session 1 0 c.in_ok-print_query.field-0 c.in_ok-clone.field-0 c.args.secrets.now c.args.drawn.now.roots may)

pub frame_bytes-requires-2 : goal.frame_bytes-requires-2
frame_bytes-requires-2 g c =
    let asked : IsWellPut c.args.checked.now c.args.shape.now c.args.params.now = record { valid = subst IsShape c.shape.view_is c.shape.invariant; form = c.facts.ensures; accepted = c.requires.accepted; known = c.requires.params } in
    let may = made_for c.args.checked.now c.args.shape.now c.args.params.now asked c.in_ok-print_query.field-0 c.args.secrets.now c.args.drawn.now.roots c.in_ok-print_query.ensures.text c.requires.secrets c.requires.roots in
    subst FrameAllowed (sym c.in_ok-zero.ensures.one) (frame_allowed _ One c.args.drawn.now.session 1 0 c.in_ok-print_query.field-0 c.in_ok-clone.field-0 c.args.secrets.now c.args.drawn.now.roots may)

pub note_bytes-requires-clause-some : goal.note_bytes-requires-clause-some
note_bytes-requires-clause-some g c =
    let asked : IsWellPut c.args.checked.now c.args.shape.now c.args.params.now = record { valid = subst IsShape c.shape.view_is c.shape.invariant; form = c.facts.ensures; accepted = c.requires.accepted; known = c.requires.params } in
    has_params c.args.checked.now c.args.shape.now c.args.params.now asked

pub returns : goal.returns
returns g c = λ words session_is roots_are.
    let shape_is : c.in_ok-clone.field-0 ≡ c.args.shape.now = c.in_ok-clone.ensures.cases in
    let begun : Begun (g.E.Expander.meaning c.args.expander.now) c.args.checked.now c.args.shape.now c.args.params.now words c.args.drawn.now.session c.in_ok-print_query.field-0 c.in_ok-clone.field-0 c.args.secrets.now c.args.drawn.now.roots =
    record { session_is = session_is; query_is = c.in_ok-print_query.ensures.text; shape_is = shape_is; secrets_are = c.requires.secrets; roots_are = roots_are } in
    let note = rw (c.as_slice.ensures, c.as_slice-2.ensures) at c.in_ok-note.ensures in
    round_begun (g.E.Expander.meaning c.args.expander.now) c.args.checked.now c.args.shape.now c.args.params.now words c.args.drawn.now.session c.in_ok-print_query.field-0 c.in_ok-clone.field-0 c.args.secrets.now c.args.drawn.now.roots begun
    c.in_ok-zero.zero c.in_ok-zero.one c.in_ok-left.left c.in_ok-right.right c.in_ok-note.note c.args.plan.now.rounds
    c.in_ok-zero.ensures.zero c.in_ok-zero.ensures.one c.in_ok-left.ensures c.in_ok-right.ensures note (ap (λ (p : Plan). p.rounds) c.requires.plan)
