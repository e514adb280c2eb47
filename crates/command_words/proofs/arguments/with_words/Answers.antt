use Rattle.std.proofs.Common.{◌∙◌, ap, sym}
use Rattle.std.proofs.lemmas.List.{map_more}
use Rattle.command_words.specs.Arguments.{app_with, one_word}
use Rattle.command_words.proofs.Chains.{one_more}
use Rattle.command_words.proofs.arguments.with_words.Goals as goal

pub loop-word-preserved : goal.loop-word-preserved
loop-word-preserved c =
    one_more _ _ _ _ _ c.loop-word.invariant c.one_word.ensures.rule c.one_word.ensures.local c.in_ok-command.ensures
    ∙ ap (app_with c.args.name.now) (sym (map_more (λ w. one_word w.now) c.args.words.now c.loop-word.word-index _ c.loop-word-test.true))
