use Rattle.cell_runs.proofs.Groups.{in_order, regrouped, same_cells}
use Rattle.cell_runs.proofs.laws.runs_are_cells.Goals as goal

pub returns : goal.returns
returns c = record {
  coarser = λ adds spec number g rows keeps. regrouped adds spec number g keeps rows;
  in_order = in_order;
  same = same_cells;
}
