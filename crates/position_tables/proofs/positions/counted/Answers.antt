use Rattle.std.proofs.Common.{rules}
use Rattle.position_tables.proofs.PositionPairs.{one_more}
use Rattle.position_tables.proofs.positions.counted.Goals as goal

pub loop-place-preserved : goal.loop-place-preserved
loop-place-preserved c = one_more c.loop-place.place c.args.numbers.items c.loop-place.numbers.items (search rules) c.loop-place.invariant
