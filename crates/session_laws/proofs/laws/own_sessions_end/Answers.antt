use Rattle.session_laws.proofs.Ended.{own_end, own_end_exchanged}
use Rattle.session_laws.proofs.laws.own_sessions_end.Goals as goal

pub returns-clause-in_order : goal.returns-clause-in_order
returns-clause-in_order c = λ e pure s zero one is spelled first second.
    own_end e s zero one is spelled (c.canonical_text_is_accepted.ensures s.checked s.table.shape.schema is.form is.accepted) first second pure

pub returns-clause-exchanged : goal.returns-clause-exchanged
returns-clause-exchanged c = λ e pure s zero one is spelled first second.
    own_end_exchanged e s zero one is spelled (c.canonical_text_is_accepted.ensures s.checked s.table.shape.schema is.form is.accepted) first second pure
