use Rattle.std.proofs.Common.{◌≡◌, ◌+◌, ◌≤◌, length}
use Rattle.std.specs.Slice.Iter.{chunks_exact_rest, chunks_exact_size}
use Rattle.private_plan.specs.Counts.{counts_taken}
use Rattle.private_plan.proofs.positions.check_counts.Given as goal

abbrev pub invariant-loop-pair : goal.invariant-loop-pair
invariant-loop-pair l =
    (goal.iterator-loop-pair).can_next l.pair-iterator
    × (goal.iterator-loop-pair).is_finite l.pair-iterator
    × (chunks_exact_size l.pair-iterator ≡ 2)
    × (l.place + length (chunks_exact_rest l.pair-iterator) ≤ 512)
    × (counts_taken l.rows l.place (chunks_exact_rest l.pair-iterator) ≡ counts_taken l.rows 0 l.counts)
