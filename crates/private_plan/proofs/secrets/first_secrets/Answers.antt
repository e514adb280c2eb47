use Rattle.std.proofs.Common.{subst, ap, ◌∙◌}
use Rattle.spl_values.specs.Shapes.{IsShape, ShapeParts}
use Rattle.query_reader.proofs.Known.{checked_narrow}
use Rattle.private_plan.specs.Slots.{slots_of}
use Rattle.private_plan.proofs.Accepted.{slots_are}
use Rattle.private_plan.proofs.FirstTrees.{last_some}
use Rattle.private_plan.proofs.secrets.first_secrets.Goals as goal

pub slots_secrets-requires-clause-some : goal.slots_secrets-requires-clause-some
slots_secrets-requires-clause-some c =
    let shape : IsShape c.args.shape.now = subst IsShape c.shape.view_is c.shape.invariant in
    rw c.sizes_of-sizes.ensures.last (last_some c.args.checked.now c.args.shape.now c.args.params.now c.requires.accepted c.facts.ensures.form shape.schema)

pub slots_secrets-requires-clause-bits : goal.slots_secrets-requires-clause-bits
slots_secrets-requires-clause-bits c = rw c.sizes_of-sizes.ensures.bits (checked_narrow c.args.checked.now c.args.shape.now.schema c.requires.accepted)

pub slots_secrets-requires-clause-slots : goal.slots_secrets-requires-clause-slots
slots_secrets-requires-clause-slots c =
    let checked = c.args.checked.now in
    let shape = c.args.shape.now in
    let slots = c.as_slice.ensures.value ∙ c.slots-slots.ensures.slots ∙ ap (λ (s : ShapeParts). slots_of checked s.schema.columns c.args.params.now) c.shape.view_is in
    rw (c.sizes_of-sizes.ensures.bits, c.sizes_of-sizes.ensures.last, slots) (slots_are checked shape.schema c.args.params.now c.requires.accepted c.facts.ensures.form c.requires.params)
