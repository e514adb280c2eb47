-- Each command is one of which `clap` says exactly what it takes.
use Rattle.std.proofs.Common.{◌≡◌, refl, true}
use Rattle.clap.specs.Words.{is_simple_and_free}
use Rattle.clap.proofs.OnLiterals.{clap_on_literals}
use Rattle.command_words.specs.Arguments.{trace_app, keys_app, answer_app, combine_app}

pub trace_is_simple : is_simple_and_free trace_app ≡ true
unfolding clap_on_literals trace_app
trace_is_simple = refl

pub keys_is_simple : is_simple_and_free keys_app ≡ true
unfolding clap_on_literals keys_app
keys_is_simple = refl

pub answer_is_simple : is_simple_and_free answer_app ≡ true
unfolding clap_on_literals answer_app
answer_is_simple = refl

pub combine_is_simple : is_simple_and_free combine_app ≡ true
unfolding clap_on_literals combine_app
combine_is_simple = refl
