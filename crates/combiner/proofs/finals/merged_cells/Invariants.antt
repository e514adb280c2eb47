use Rattle.std.proofs.Common.{◌≡◌, length}
use Rattle.std.specs.List.{fold}
use Rattle.std.specs.Slice.Iter.{chunks_exact_rest, chunks_exact_size}
use Rattle.cell_merge.specs.Cells.{cell_width, merge, merge_all}
use Rattle.combiner.specs.Finals.{cells_in}
use Rattle.combiner.proofs.finals.merged_cells.Given as goal

abbrev pub invariant-loop-cell : goal.invariant-loop-cell
invariant-loop-cell l =
    (goal.iterator-loop-cell).can_next l.cell-iterator
    × (goal.iterator-loop-cell).is_finite l.cell-iterator
    × (chunks_exact_size l.cell-iterator ≡ cell_width l.spec)
    × (length l.merged.items ≡ cell_width l.spec)
    × (fold (merge l.spec) l.merged.items (cells_in (cell_width l.spec) (chunks_exact_rest l.cell-iterator)) ≡ merge_all l.spec (cells_in (cell_width l.spec) l.words))
