use Rattle.judged_queries.proofs.Readings.{no_reading_gives}
use Rattle.judged_queries.proofs.queries.query_of_text.Goals as goal

pub returns-in-Err-NoReading : goal.returns-in-Err-NoReading
returns-in-Err-NoReading c =
    no_reading_gives c.args.text.now c.in-Err-NoReading.at (λ q is. c.reading_is_grammar.ensures.reads _ _ q is) (λ u is. c.reading_is_grammar.ensures.fault _ _ u is)
    (rw c.in-Err-NoReading.field-0-is at c.in-Err-NoReading.ensures.only) (rw c.in-Err-NoReading.field-0-is at c.in-Err-NoReading.ensures.fault)
