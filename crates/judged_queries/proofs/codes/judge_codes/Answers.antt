use Rattle.std.proofs.Common.{subst}
use Rattle.spl_values.specs.Shapes.{IsSchema}
use Rattle.judged_queries.proofs.TakenCodes.{answers_codes}
use Rattle.judged_queries.proofs.codes.judge_codes.Goals as goal

pub returns-clause-gives : goal.returns-clause-gives
returns-clause-gives c =
    answers_codes c.args.checked.now.query c.args.schema.now c.args.codes.now c.params_of_codes.result (subst IsSchema c.schema.view_is c.schema.invariant) c.params_of_codes.ensures.takes
