use Rattle.client_rounds.specs.declared.judging.Judged.{Judged}
use Rattle.client_rounds.specs.Finishing.{note_in}
use Rattle.command_words.specs.Views.{combine_order}
use Rattle.splinter_commands.proofs.Stops.{ask_gives}
use Rattle.splinter_commands.proofs.combine.judged_note.Goals as goal

pub returns-in-Err-clause-gives : goal.returns-in-Err-clause-gives
returns-in-Err-clause-gives c = ask_gives {X = Judged} {Y = Judged} (λ x. x) (combine_order c.args.words.now) c.in-Err.fault (note_in c.args.bytes.now) c.client_stop.result c.in-Err.ensures.gives c.client_stop.ensures.by c.client_stop.ensures.memory
