use Rattle.client_rounds.proofs.Ends.{ends, ends_exchanged, note_made}
use Rattle.client_rounds.proofs.laws.sessions_end_with_the_clear_answer.Goals as goal

pub returns-clause-in_order : goal.returns-clause-in_order
returns-clause-in_order c = λ e pure checked table params drawn texts valid form accepted built given bounds are.
    ends e pure checked table params drawn texts valid form accepted built given bounds (note_made e checked table params drawn texts valid form accepted given are) (c.canonical_text_is_accepted.ensures checked table.shape.schema form accepted)

pub returns-clause-exchanged : goal.returns-clause-exchanged
returns-clause-exchanged c = λ e pure checked table params drawn texts valid form accepted built given bounds are.
    ends_exchanged e pure checked table params drawn texts valid form accepted built given bounds (note_made e checked table params drawn texts valid form accepted given are) (c.canonical_text_is_accepted.ensures checked table.shape.schema form accepted)
