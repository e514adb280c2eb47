use Rattle.private_plan.proofs.Accepted.{low_spans, valid_spans}
use Rattle.private_plan.proofs.laws.spans_fit_the_key.Goals as goal

pub returns : goal.returns
returns c = record { spans = valid_spans; below = low_spans }
