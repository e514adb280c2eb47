use Rattle.std.proofs.Common.{subst}
use Rattle.spl_values.specs.Shapes.{IsSchema}
use Rattle.query_reader.proofs.Codes.{taken_known}
use Rattle.query_reader.proofs.params.params_of_codes.Goals as goal

pub returns-clause-known : goal.returns-clause-known
returns-clause-known c =
    taken_known c.args.checked.now c.args.schema.now c.args.codes.now c.codes_of_codes.result c.facts.ensures.form (subst IsSchema c.schema.view_is c.schema.invariant) c.codes_of_codes.ensures
