use Rattle.splinter_commands.proofs.rounds.begin.Goals as goal

pub start-round-requires-clause-few : goal.start-round-requires-clause-few
start-round-requires-clause-few g c = c.params_are_few.ensures.words c.args.asked.now.checked.query c.args.shape.now.schema c.requires.words.0 c.args.asked.now.params c.requires.words.1
