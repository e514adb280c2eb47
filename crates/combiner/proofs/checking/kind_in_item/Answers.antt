use Rattle.std.proofs.Common.{arith}
use Rattle.combiner.proofs.WordKinds.{top_place, top_sort, top_show}
use Rattle.combiner.proofs.checking.kind_in_item.Goals as goal

pub returns-in-0 : goal.returns-in-0
returns-in-0 c =
    let inside = rw c.in-TopK.is at c.requires in
    rw c.in-TopK.is (top_place c.in-TopK.sort c.in-TopK.show 0 c.in-TopK.field-0 c.args.place inside c.in-0.is)

pub returns-in-1 : goal.returns-in-1
returns-in-1 c =
    let inside = rw c.in-TopK.is at c.requires in
    rw c.in-TopK.is (top_sort c.in-TopK.sort c.in-TopK.show 0 c.in-TopK.field-0 c.args.place inside c.in-1.is)

pub returns-in_default : goal.returns-in_default
returns-in_default c =
    let inside = rw c.in-TopK.is at c.requires in
    rw c.in-TopK.is (top_show c.in-TopK.sort c.in-TopK.show 0 c.in-TopK.field-0 c.args.place inside (omega (arith, c.in_default)))
