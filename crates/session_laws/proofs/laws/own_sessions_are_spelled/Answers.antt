use Rattle.spl_words.specs.declared.provider.Provider.{Provider}
use Rattle.session_laws.proofs.Ended.{session_asked}
use Rattle.session_laws.proofs.laws.own_sessions_are_spelled.Goals as goal

pub returns : goal.returns
returns c = λ e seeds s is words.
    let asked = session_asked s is in
    record {
      keys = λ (p : Provider). c.round_is_spelled.ensures.frame e seeds p s.checked s.table.shape s.params s.words asked words;
      note = c.round_is_spelled.ensures.note e s.checked s.table.shape s.params s.words asked (c.params_are_few.ensures.words s.checked.query s.table.shape.schema is.given.0 s.params is.given.1) words;
    }
