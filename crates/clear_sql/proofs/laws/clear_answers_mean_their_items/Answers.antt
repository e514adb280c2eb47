use Rattle.clear_sql.proofs.Meaning.{clear_means, rise-matching}
use Rattle.clear_sql.proofs.Unique.{outcome_alone}
use Rattle.clear_sql.proofs.laws.clear_answers_mean_their_items.Goals as goal

pub returns : goal.returns
returns c = record { means = clear_means; alone = outcome_alone; rise = rise-matching }
