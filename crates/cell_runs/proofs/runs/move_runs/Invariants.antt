use Rattle.std.proofs.Common.{◌≡◌, ℕ, ◌*◌, ◌≤◌, List, length, take, drop}
use Rattle.cell_runs.specs.CellsBy.{ArePairs}
use Rattle.cell_runs.specs.Runs.{IsMoving, runs}
use Rattle.cell_runs.proofs.runs.move_runs.Given as goal

abbrev pub invariant-loop-place : goal.invariant-loop-place
invariant-loop-place l = record {
  moving : (pairs : List (ℕ × List ℕ)) → ArePairs l.words pairs l.fn.keys l.fn.cells → IsMoving l.words (runs l.spec (take l.place pairs)) (drop l.place pairs) l.kept l.place l.keys l.cells;
  kept : l.kept ≤ l.place;
  keys : length l.keys ≡ length l.fn.keys;
  whole : length l.cells ≡ length l.keys * l.words;
}
