use Rattle.answer_frames.specs.declared.answer.AnswerFrame.{AnswerFrame}
use Rattle.client_rounds.specs.Finishing.{answer_in}
use Rattle.command_words.specs.Views.{combine_order}
use Rattle.splinter_commands.proofs.Stops.{ask_gives}
use Rattle.splinter_commands.proofs.combine.judged_answer.Goals as goal

pub returns-in-Err-clause-gives : goal.returns-in-Err-clause-gives
returns-in-Err-clause-gives c = ask_gives {X = AnswerFrame} {Y = AnswerFrame} (λ x. x) (combine_order c.args.words.now) c.in-Err.fault (answer_in c.args.source c.args.bytes.now) c.client_stop.result c.in-Err.ensures.gives c.client_stop.ensures.by c.client_stop.ensures.memory
