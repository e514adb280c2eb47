use Rattle.std.proofs.Common.{◌≡◌, ◌++◌, take}
use Rattle.splinter_commands.specs.Commands.{spaced}
use Rattle.splinter_commands.proofs.sessions.push_words.Given as goal

-- the words so far stand behind the text
abbrev pub invariant-loop-word : goal.invariant-loop-word
invariant-loop-word l = l.text.items ≡ l.fn.text.items ++ spaced (take l.word-index l.words)
