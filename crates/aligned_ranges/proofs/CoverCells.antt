-- The cells of the ranges of a cover merge to the cell of the rows in its interval.
use Rattle.std.proofs.Common.{◌≡◌, ℕ, ◌^◌, ◌<◌, ◌≤◌, Bool, ◌&&◌, leb, List, [], ◌∷◌, length, map, ap, ◌∙◌}
use Rattle.std.specs.List.{AllByRecursion, filter}
use Rattle.std.proofs.lemmas.List.Elements.{filter_agree}
use Rattle.cell_merge.specs.declared.spec.CellSpec.{CellSpec}
use Rattle.cell_merge.specs.Rows.{Row, Apart}
use Rattle.cell_merge.specs.Cells.{Addends, cell, merge_all}
use Rattle.aligned_ranges.specs.Covers.{cover, holds}
use Rattle.aligned_ranges.specs.declared.ranges.Range.{Range}
use Rattle.aligned_ranges.proofs.CoverLaws.{value_of_cover}
use Rattle.aligned_ranges.proofs.TestedCells.{passed_once, passed_where, passes_one, tested_merge, times_passed}

module _ (adds : Addends) (spec : CellSpec) (number : Row → ℕ) (rows : List Row) (lo hi w : ℕ) (some : 1 ≤ w) where
  -- whether a range holds the number of a row
  abbrev in_range : Range → Row → Bool
  in_range range r = holds (number r) range

  each_once : (rs : List Row) → AllByRecursion (λ r. times_passed in_range (cover lo hi w) r ≤ 1) rs
  each_once [] = tt
  each_once (r ∷ rs) = (passed_once in_range (cover lo hi w) r (leb lo (number r) && leb (number r) hi) (value_of_cover lo hi w (number r) some), each_once rs)

  pub cover_merges : Apart rows → length rows < 2 ^ 64
      → merge_all spec (map (λ range. cell adds spec (filter (in_range range) rows)) (cover lo hi w)) ≡ cell adds spec (filter (λ r. leb lo (number r) && leb (number r) hi) rows)
  cover_merges apart few =
      tested_merge adds spec in_range rows apart few (cover lo hi w) (each_once rows)
      ∙ ap (λ l. cell adds spec l) (filter_agree (passes_one in_range (cover lo hi w)) (λ r. leb lo (number r) && leb (number r) hi)
      (λ r. passed_where in_range (cover lo hi w) r (leb lo (number r) && leb (number r) hi) (value_of_cover lo hi w (number r) some)) rows)
