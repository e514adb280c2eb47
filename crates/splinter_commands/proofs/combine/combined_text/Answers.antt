use Rattle.std.proofs.Common.{ℕ, List}
use Rattle.client_rounds.specs.Finishing.{result_of}
use Rattle.command_words.specs.Views.{combine_order}
use Rattle.splinter_commands.proofs.Stops.{ask_gives}
use Rattle.splinter_commands.proofs.combine.combined_text.Goals as goal

pub returns-in-Err-clause-gives : goal.returns-in-Err-clause-gives
returns-in-Err-clause-gives c = ask_gives {X = (List ℕ)} {Y = (List ℕ)} (λ x. x) (combine_order c.args.words.now) c.in-Err.fault (result_of c.args.judged.now c.args.first.now c.args.second.now) c.client_stop.result c.in-Err.ensures.gives c.client_stop.ensures.by c.client_stop.ensures.memory
