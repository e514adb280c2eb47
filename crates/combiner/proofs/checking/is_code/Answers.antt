use Rattle.std.proofs.Common.{◌∙◌}
use Rattle.combiner.proofs.Codes.{code_found}
use Rattle.combiner.proofs.checking.is_code.Goals as goal

pub returns : goal.returns
returns c = c.is_some.ensures ∙ code_found c.args.kind.now c.args.code c.decode.result c.requires (rw c.from.ensures at c.decode.ensures)
