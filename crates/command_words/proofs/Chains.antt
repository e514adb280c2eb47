-- What `clap` is told, one argument after the other.
use Rattle.std.proofs.Common.{◌≡◌, ◌∙◌, ap, false}
use Rattle.clap.specs.Words.{AddsArg, App, Rule, app_of, rule_of, with_rule}
use Rattle.clap.specs.declared.builder.arg.Arg.{Arg}
use Rattle.clap.specs.declared.builder.command.Command.{Command}

-- one more argument
pub one_more : (old new : Command) (a : Arg) (app : App) (rule : Rule) → app_of old ≡ app → rule_of a ≡ rule → a.global ≡ false → AddsArg old a new → app_of new ≡ with_rule app rule
one_more old new a app rule is said local adds = adds.shape local ∙ ap (λ before. with_rule before (rule_of a)) is ∙ ap (with_rule app) said
