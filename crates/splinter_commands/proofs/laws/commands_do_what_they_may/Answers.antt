use Rattle.splinter_commands.proofs.Within.{none_drawn, none_printed}
use Rattle.splinter_commands.proofs.laws.commands_do_what_they_may.Goals as goal

pub returns-clause-draws : goal.returns-clause-draws
returns-clause-draws c = none_drawn

pub returns-clause-prints : goal.returns-clause-prints
returns-clause-prints c = none_printed
