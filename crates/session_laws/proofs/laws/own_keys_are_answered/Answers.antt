use Rattle.session_laws.proofs.Answered.{own_answered}
use Rattle.session_laws.proofs.Ended.{own_spelled}
use Rattle.session_laws.proofs.laws.own_keys_are_answered.Goals as goal

pub returns-clause-answered : goal.returns-clause-answered
returns-clause-answered c = λ e p checked table params words bytes valid asked built bounded of.
    own_answered e p checked table params words bytes asked built bounded (c.canonical_text_is_accepted.ensures checked table.shape.schema asked.form asked.accepted) of

pub returns-clause-spelled : goal.returns-clause-spelled
returns-clause-spelled c = λ e p checked table params words bytes valid asked built of. own_spelled e checked table params words valid p bytes asked built of
