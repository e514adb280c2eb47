use Rattle.cell_merge.specs.Rows.{Row}
use Rattle.std.proofs.Common.{Bool}
use Rattle.aligned_ranges.proofs.CoverCells.{cover_merges}
use Rattle.aligned_ranges.proofs.TestedCells.{tested_merge}
use Rattle.aligned_ranges.proofs.laws.cells_of_ranges_merge.Goals as goal

pub returns : goal.returns
returns c = record {
  tests = λ adds spec rows tests apart few once. tested_merge adds spec (λ (passes : Row → Bool) row. passes row) rows apart few tests once;
  cover = λ adds spec number rows lo hi w some apart few. cover_merges adds spec number rows lo hi w some apart few;
}
