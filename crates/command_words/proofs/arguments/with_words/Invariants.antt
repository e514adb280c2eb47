use Rattle.std.proofs.Common.{◌≡◌, map, take}
use Rattle.clap.specs.Words.{app_of}
use Rattle.command_words.specs.Arguments.{app_with, one_word}
use Rattle.command_words.proofs.arguments.with_words.Given as goal

abbrev pub invariant-loop-word : goal.invariant-loop-word
invariant-loop-word l = app_of l.command ≡ app_with l.name (map (λ w. one_word w.now) (take l.word-index l.words))
