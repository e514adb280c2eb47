use Rattle.std.proofs.Common.{ap, ◌∙◌}
use Rattle.spl_words.specs.Secrets.{secrets_value}
use Rattle.query_reader.proofs.Known.{checked_some}
use Rattle.private_plan.specs.Branches.{row_key}
use Rattle.private_plan.proofs.Accepted.{secrets_of_sum}
use Rattle.private_plan.proofs.SlotSecrets.{secrets_tell}
use Rattle.private_plan.proofs.laws.sum_secrets_tell_matching_rows.Goals as goal

pub returns : goal.returns
returns c = λ checked shape params r accepted q known room sum.
    let columns = shape.schema.columns in
    ap (λ l. secrets_value l (row_key columns checked.columns r)) (secrets_of_sum checked shape params sum)
    ∙ secrets_tell columns checked.columns checked.range (checked_some checked shape.schema accepted q) checked.bits checked.branches params r room known.below
