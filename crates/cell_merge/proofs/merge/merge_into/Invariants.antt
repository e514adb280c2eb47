use Rattle.std.proofs.Common.{◌≡◌, ◌*◌, ◌++◌, drop}
use Rattle.cell_merge.specs.Cells.{merge_blocks}
use Rattle.cell_merge.proofs.merge.merge_into.Given as goal

abbrev pub invariant-loop-i : goal.invariant-loop-i
invariant-loop-i l = l.into ≡ merge_blocks l.i l.items l.initial.into l.from ++ drop (l.i * l.words) l.initial.into
