use Rattle.std.proofs.Common.{refl}
use Rattle.spl_words.specs.declared.provider.Provider.{Provider}
use Rattle.spl_words.specs.declared.provider.Provider.TheVariants.{Zero, One}
use Rattle.seed_expansion.specs.ChaChaExpansion.{chacha}
use Rattle.client_rounds.specs.WellPut.{IsWellPut}
use Rattle.session_laws.specs.OwnSessions.{IsSession, own_key}
use Rattle.splinter_commands.specs.HeldSessions.{session_of}
use Rattle.splinter_commands.proofs.SessionsEnd.{own_answer, left_is, right_is, note_is, round_spelled, same_answer, same_end}
use Rattle.splinter_commands.proofs.sessions.round_is_answered.Goals as goal

pub returns-clause-zero : goal.returns-clause-zero
returns-clause-zero c = λ words of.
    let t = c.args.traced.now in
    let round = c.args.round.now in
    let known = c.requires.asked in
    let valid = c.shape.ensures.valid in
    let asked : IsWellPut t.asked.checked t.table.shape t.asked.params = record { valid = valid.shape; form = c.facts.ensures; accepted = known.checked; known = known.params } in
    let key = own_key chacha (session_of t words) Zero in
    same_answer t Zero round.left key (own_answer t words Zero) (left_is t words round of)
    (c.own_keys_are_answered.ensures.answered chacha Zero t.asked.checked t.table t.asked.params words key valid asked known.built c.requires.bounded ((round_spelled t words round of).keys Zero))

pub returns-clause-one : goal.returns-clause-one
returns-clause-one c = λ words of.
    let t = c.args.traced.now in
    let round = c.args.round.now in
    let known = c.requires.asked in
    let valid = c.shape.ensures.valid in
    let asked : IsWellPut t.asked.checked t.table.shape t.asked.params = record { valid = valid.shape; form = c.facts.ensures; accepted = known.checked; known = known.params } in
    let key = own_key chacha (session_of t words) One in
    same_answer t One round.right key (own_answer t words One) (right_is t words round of)
    (c.own_keys_are_answered.ensures.answered chacha One t.asked.checked t.table t.asked.params words key valid asked known.built c.requires.bounded ((round_spelled t words round of).keys One))

pub returns-clause-frames : goal.returns-clause-frames
returns-clause-frames c = λ p words of.
    let t = c.args.traced.now in
    let spelled = round_spelled t words c.args.round.now of in
    let known = c.requires.asked in
    let valid = c.shape.ensures.valid in
    let asked : IsWellPut t.asked.checked t.table.shape t.asked.params = record { valid = valid.shape; form = c.facts.ensures; accepted = known.checked; known = known.params } in
    c.own_keys_are_answered.ensures.spelled chacha p t.asked.checked t.table t.asked.params words (own_key chacha (session_of t words) p) valid asked known.built (spelled.keys p)

pub returns-clause-ended : goal.returns-clause-ended
returns-clause-ended c = λ words of.
    let t = c.args.traced.now in
    let round = c.args.round.now in
    let known = c.requires.asked in
    let valid = c.shape.ensures.valid in
    let asked : IsWellPut t.asked.checked t.table.shape t.asked.params = record { valid = valid.shape; form = c.facts.ensures; accepted = known.checked; known = known.params } in
    let s = session_of t words in
    let is : IsSession s = record { table = valid; form = c.facts.ensures; accepted = known.checked; built = known.built; given = known.words; bounded = c.requires.bounded } in
    let spelled = round_spelled t words round of in
    let answers = λ (p : Provider). c.own_keys_are_answered.ensures.answered chacha p t.asked.checked t.table t.asked.params words (own_key chacha s p) valid asked known.built c.requires.bounded (spelled.keys p) in
    same_end round.note (own_answer t words Zero) (own_answer t words One) _ _ _ _ (note_is t words round of) refl refl
    (c.own_sessions_end.ensures.in_order chacha c.chacha_is_pure.ensures s (own_answer t words Zero) (own_answer t words One) is spelled (answers Zero) (answers One))
