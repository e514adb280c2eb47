use Rattle.std.proofs.Common.{map, string_bytes, subst}
use Rattle.spl_values.specs.Shapes.{IsSchema}
use Rattle.query_reader.proofs.Codes.{answered_known}
use Rattle.query_reader.proofs.params.params_of_words.Goals as goal

pub returns-clause-known : goal.returns-clause-known
returns-clause-known c =
    answered_known c.args.checked.now c.args.schema.now (map string_bytes c.args.words.now) c.codes_of_words.result c.facts.ensures.form (subst IsSchema c.schema.view_is c.schema.invariant) c.codes_of_words.ensures
