use Rattle.std.proofs.Common.{rules}
use Rattle.splinter_commands.proofs.dispatch.dispatch.Goals as goal

pub returns-in-Answer-clause-told : goal.returns-in-Answer-clause-told
returns-in-Answer-clause-told g c = let told = c.answer.ensures.told (g.R.Draw.words c.args.draw.now) in search rules

pub returns-in-Combine-clause-told : goal.returns-in-Combine-clause-told
returns-in-Combine-clause-told g c = let told = c.combine.ensures.told (g.R.Draw.words c.args.draw.now) in search rules
