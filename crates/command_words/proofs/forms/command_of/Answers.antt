use Rattle.command_words.proofs.Names.{no_form}
use Rattle.command_words.proofs.forms.command_of.Goals as goal

pub returns-in_default-clause-means : goal.returns-in_default-clause-means
returns-in_default-clause-means c =
    no_form c.args.words.now c.name-item.result c.as_str.result.now c.in-len1-up.len_at_least c.name-item.is c.as_str.ensures.value
    (record { trace = c.in_default.not-trace; keys = c.in_default.not-keys; answer = c.in_default.not-answer; combine = c.in_default.not-combine })
