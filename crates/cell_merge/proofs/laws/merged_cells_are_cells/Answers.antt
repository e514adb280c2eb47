use Rattle.cell_merge.proofs.Labels.{cell_merge, cell_merge_picked}
use Rattle.cell_merge.proofs.All.{cell_empty, merge_of_many}
use Rattle.cell_merge.proofs.laws.merged_cells_are_cells.Goals as goal

pub returns : goal.returns
returns c = record { union = cell_merge; picked = cell_merge_picked; empty = cell_empty; parts = merge_of_many }
