use Rattle.std.proofs.Common.{ap, ◌∙◌}
use Rattle.spl_values.specs.ShapeTexts.{shape_of_lines}
use Rattle.spl_values.proofs.ShapeRoundTrip.{shape_reads}
use Rattle.spl_values.proofs.ShapeSpelling.{read_is_text}
use Rattle.spl_values.proofs.laws.shape_texts_read.Goals as goal

pub returns : goal.returns
returns c text s = (read_is_text text s, λ h. ap shape_of_lines h.lines ∙ shape_reads s h.valid)
