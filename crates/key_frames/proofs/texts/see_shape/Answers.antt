use Rattle.std.proofs.Common.{subst}
use Rattle.spl_values.specs.Shapes.{IsShape}
use Rattle.key_frames.proofs.ShapeTextLaws.{shape_length}
use Rattle.key_frames.proofs.texts.see_shape.Goals as goal

pub returns-clause-is : goal.returns-clause-is
returns-clause-is c = subst IsShape c.shape.view_is c.shape.invariant

pub returns-clause-some : goal.returns-clause-some
returns-clause-some c = (shape_length c.args.shape.now (subst IsShape c.shape.view_is c.shape.invariant)).0

pub returns-clause-count : goal.returns-clause-count
returns-clause-count c = (shape_length c.args.shape.now (subst IsShape c.shape.view_is c.shape.invariant)).1
