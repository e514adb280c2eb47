use Rattle.std.proofs.Common.{◌/◌, rules}
use Rattle.std.proofs.lemmas.List.Edits.{map_over_more}
use Rattle.aligned_ranges.proofs.lifting.halved.Goals as goal

pub loop-place-preserved : goal.loop-place-preserved
loop-place-preserved c = map_over_more (λ n. n / 2) c.args.numbers.items c.loop-place.numbers.items c.loop-place.place c.index_mut.result.now (search rules) c.loop-place.invariant c.index_mut.ensures.value
