use Rattle.std.proofs.Common.{◌≡◌, ℕ, ◌*◌, ◌≤◌, ◌++◌, slice_index, drop}
use Rattle.cell_merge.specs.Entries.{before, late_insertion}
use Rattle.cell_merge.specs.Triples.{remainder, triples}
use Rattle.cell_merge.proofs.top.insert.Given as goal

abbrev pub invariant-loop-i : goal.invariant-loop-i
invariant-loop-i l = record {
  entries : triples l.i l.words ++ remainder l.placed l.moved (drop l.i (triples l.used l.initial.words)) ≡ late_insertion before l.initial.moved (triples l.used l.initial.words);
  rest : (j : ℕ) → 3 * l.i ≤ j → slice_index l.words j ≡ slice_index l.initial.words j;
}
