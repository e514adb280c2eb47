use Rattle.std.proofs.Common.{◌≡◌, ℕ, ◌*◌, ◌≤◌, ◌++◌, slice_index, take}
use Rattle.cell_merge.specs.Entries.{before, ordered, entries_of}
use Rattle.cell_merge.specs.Triples.{triples}
use Rattle.cell_merge.proofs.top.merge_top.Given as goal

abbrev pub invariant-loop-i : goal.invariant-loop-i
invariant-loop-i l = record {
  used : l.used ≤ l.i;
  entries : triples l.used l.into ≡ take l.most (ordered before (entries_of (take (3 * l.i) l.initial.into)));
  rest : (j : ℕ) → 3 * l.i ≤ j → slice_index l.into j ≡ slice_index l.initial.into j;
}

abbrev pub invariant-loop-j : goal.invariant-loop-j
invariant-loop-j l = record {
  used : l.used ≤ l.most;
  entries : triples l.used l.into ≡ take l.most (ordered before (entries_of l.fn.into ++ entries_of (take (3 * l.j) l.from)));
}
