use Rattle.splinter_steps.specs.Outputs.{output}
use Rattle.splinter_steps.proofs.Puts.{puts_one, puts_none, puts_some, but_one}
use Rattle.splinter_steps.proofs.writing.write_file.Goals as goal

pub returns-in-Ok-clause-puts : goal.returns-in-Ok-clause-puts
returns-in-Ok-clause-puts g c = puts_one _ _ _ c.in-Ok.ensures.content

pub returns-in-Ok-clause-others : goal.returns-in-Ok-clause-others
returns-in-Ok-clause-others g c = but_one _ _ _ c.in-Ok.ensures.others

pub returns-in-Err-OutOfMemory-clause-puts : goal.returns-in-Err-OutOfMemory-clause-puts
returns-in-Err-OutOfMemory-clause-puts g c =
    let kept = rw c.in-Err-OutOfMemory.field-0-is at c.in-Err-OutOfMemory.ensures.content in
    puts_none (g.F.Files.held c.args.files.now) (g.F.Files.held c.write.new.self) (output c.args.file.now) kept

pub returns-in-Err-Failed-clause-puts : goal.returns-in-Err-Failed-clause-puts
returns-in-Err-Failed-clause-puts g c = puts_some _ _ _ c.in-Err-Failed.ensures.others

pub returns-in-Err-Failed-clause-others : goal.returns-in-Err-Failed-clause-others
returns-in-Err-Failed-clause-others g c = but_one _ _ _ c.in-Err-Failed.ensures.others
