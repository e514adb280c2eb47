use Rattle.std.proofs.Common.{ap}
use Rattle.spl_values.specs.Shapes.{ShapeParts}
use Rattle.query_reader.proofs.Known.{checked_some, checked_columns, checked_bits}
use Rattle.private_plan.proofs.Counts.{last_in_key}
use Rattle.private_plan.proofs.layout.sizes_of.Goals as goal

pub last_bits-last_bits-requires-clause-some : goal.last_bits-last_bits-requires-clause-some
last_bits-last_bits-requires-clause-some c = rw c.as_slice.ensures (checked_some c.args.checked.now c.args.shape.now.schema c.requires c.facts.ensures.form)

pub last_bits-last_bits-requires-clause-columns : goal.last_bits-last_bits-requires-clause-columns
last_bits-last_bits-requires-clause-columns c =
    let same = ap (λ (s : ShapeParts). s.schema.columns) c.shape.view_is in
    rw (c.as_slice.ensures, same) (checked_columns c.args.checked.now c.args.shape.now.schema c.requires)

pub returns-clause-inside : goal.returns-clause-inside
returns-clause-inside c =
    let same = ap (λ (s : ShapeParts). s.schema.columns) c.shape.view_is in
    let some = checked_some c.args.checked.now c.args.shape.now.schema c.requires c.facts.ensures.form in
    let bits = checked_bits c.args.checked.now c.args.shape.now.schema c.requires in
    let within = last_in_key c.args.shape.now.schema.columns c.args.checked.now.columns some in
    rw (c.last_bits-last_bits.ensures, same, c.as_slice.ensures, bits) within
