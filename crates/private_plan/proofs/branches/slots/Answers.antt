use Rattle.std.proofs.Common.{◌≡◌, ◌∙◌, ap, ◌^◌}
use Rattle.interval_keys.specs.Slots.{slots}
use Rattle.query_reader.proofs.Known.{checked_some, checked_bits}
use Rattle.private_plan.proofs.Spans.{spans_fit}
use Rattle.private_plan.proofs.SlotSecrets.{slots_fit}
use Rattle.spl_values.specs.Tables.{key_bits}
use Rattle.private_plan.specs.Branches.{branch_spans}
use Rattle.private_plan.proofs.branches.slots.Goals as goal

pub returns-clause-fits : goal.returns-clause-fits
returns-clause-fits c =
    let checked = c.args.checked.now in
    let columns = c.args.schema.now.columns in
    let spans = branch_spans columns checked.branches checked.columns checked.range c.args.params.now in
    let same = ap (branch_spans columns checked.branches checked.columns checked.range) c.as_slice.ensures in
    let items : c.normalise_intervals.result.items ≡ slots spans = c.normalise_intervals.ensures.slots ∙ ap slots (c.as_slice-2.ensures.value ∙ (c.branch_spans-spans.ensures.spans ∙ same)) in
    let bits = checked_bits checked c.args.schema.now c.requires.accepted in
    let some = checked_some checked c.args.schema.now c.requires.accepted c.facts.ensures.form in
    rw (items, bits) (slots_fit spans (2 ^ key_bits columns checked.columns) (spans_fit columns checked.columns checked.range some checked.branches c.args.params.now c.requires.params.below))
