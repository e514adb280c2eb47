use Rattle.std.proofs.Common.{rules, ◌++◌, List, ℕ, ◌∷◌, refl, ap, ◌∙◌}
use Rattle.std.specs.Fmt.{decimal}
use Rattle.clear_sql.proofs.Lines.{lines-more}
use Rattle.splinter_commands.proofs.sessions.push_words.Goals as goal

pub loop-word-preserved : goal.loop-word-preserved
loop-word-preserved c =
    lines-more (λ w. 32 ∷ decimal w) c.args.words.now c.loop-word.word-index 0 _ c.args.text.now.items c.loop-word.text.items c.extend_from_slice.new.self.items (search rules) refl
    c.loop-word.invariant (c.in_ok-extend_from_slice.ensures.items ∙ ap (λ (b : List ℕ). c.loop-word.text.items ++ b) (c.as_bytes.ensures.value ∙ c.in_ok-shown.ensures.ok))
