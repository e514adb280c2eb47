use Rattle.splinter_commands.proofs.refusals.provider_stop.Goals as goal

pub returns-in-Ok-clause-memory : goal.returns-in-Ok-clause-memory
returns-in-Ok-clause-memory c = λ short. let e = c.in-Ok.ensures.memory short in absurd cc
