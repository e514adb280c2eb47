use Rattle.std.proofs.Common.{◌≡◌, ◌+◌, ◌++◌, drop, length}
use Rattle.cell_merge.specs.Cells.{items_width}
use Rattle.clear_sql.specs.CellAnswers.{ItemsRead, outcomes_of}
use Rattle.clear_sql.proofs.reading.results_of.Given as goal

abbrev pub invariant-loop-item : goal.invariant-loop-item
invariant-loop-item l = record {
  at : l.at + items_width (drop l.item-index l.items) ≡ length l.block;
  reads : ItemsRead l.columns (drop l.item-index l.items) (drop l.at l.block);
  results : outcomes_of l.columns l.items l.count (drop 1 l.block) ≡ l.results.items ++ outcomes_of l.columns (drop l.item-index l.items) l.count (drop l.at l.block);
}
