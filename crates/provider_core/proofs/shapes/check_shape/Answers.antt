use Rattle.std.proofs.Common.{◌≡◌, ◌∙◌, length, subst, ap, arith}
use Rattle.spl_values.specs.Shapes.{IsShape}
use Rattle.spl_values.specs.ShapeTexts.{shape_text}
use Rattle.key_frames.proofs.ShapeTextLaws.{shape_length}
use Rattle.provider_core.proofs.shapes.check_shape.Goals as goal

pub check_text-requires : goal.check_text-requires
check_text-requires c =
    let long = shape_length c.args.shape.now (subst IsShape c.shape.view_is c.shape.invariant) in
    let text : c.as_slice.result.now ≡ shape_text c.args.shape.now = c.as_slice.ensures ∙ c.in_ok-text.ensures in
    omega (arith, ap length text, long.1)
