use Rattle.splinter_cli.proofs.Causes.{draws_count, files_count}
use Rattle.splinter_cli.proofs.Promised.{nothing, promised, unwritten}
use Rattle.splinter_cli.proofs.SessionRuns.{session_ends}
use Rattle.splinter_cli.proofs.top.run.Goals as goal

pub returns-clause-promises : goal.returns-clause-promises
returns-clause-promises g c = promised _ _ _ _ c.carry_out_and_tell.ensures.ran

pub returns-clause-file_fault : goal.returns-clause-file_fault
returns-clause-file_fault g c = let ran = c.carry_out_and_tell.ensures.ran in files_count ran.outcome _ _ _ ran.ends ran.files

pub returns-clause-draw_fault : goal.returns-clause-draw_fault
returns-clause-draw_fault g c = let ran = c.carry_out_and_tell.ensures.ran in draws_count ran.outcome _ _ _ ran.ends ran.draws

pub returns-clause-output_fault : goal.returns-clause-output_fault
returns-clause-output_fault g c = c.carry_out_and_tell.ensures.ran.output

pub returns-clause-unwritten : goal.returns-clause-unwritten
returns-clause-unwritten g c = unwritten _ _ _ _ c.carry_out_and_tell.ensures.ran

pub returns-clause-nothing : goal.returns-clause-nothing
returns-clause-nothing g c = nothing _ _ _ _ c.carry_out_and_tell.ensures.ran

pub returns-clause-session : goal.returns-clause-session
returns-clause-session g c = session_ends _ _ _ _ c.own_sessions_are_combined.ensures (promised _ _ _ _ c.carry_out_and_tell.ensures.ran)
