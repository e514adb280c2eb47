use Rattle.private_plan.proofs.Spans.{holds_where, held_where}
use Rattle.private_plan.proofs.laws.spans_hold_where_branches_do.Goals as goal

pub returns-clause-one : goal.returns-clause-one
returns-clause-one c = holds_where

pub returns-clause-some : goal.returns-clause-some
returns-clause-some c = held_where
