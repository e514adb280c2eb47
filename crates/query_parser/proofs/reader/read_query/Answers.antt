use Rattle.query_tokens.proofs.Standing.{read_well_formed}
use Rattle.query_parser.proofs.reader.read_query.Goals as goal

pub invariant_of-result : goal.invariant_of-result
invariant_of-result c = read_well_formed c.args.text.now _ c.in-Ok.ensures.reads

pub returns-in-Ok-clause-only : goal.returns-in-Ok-clause-only
returns-in-Ok-clause-only c q r = c.in-Ok.ensures.only q r

pub returns-in-Err-NoReading-clause-only : goal.returns-in-Err-NoReading-clause-only
returns-in-Err-NoReading-clause-only c q r = rw c.in-Err-NoReading.field-0-is at (c.in-Err-NoReading.ensures.only q r)
