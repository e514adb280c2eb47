use Rattle.std.proofs.Common.{◌≡◌, ℕ, ◌*◌, ◌<◌, ◌≤◌, slice_index}
use Rattle.spl_words.specs.Words.{plus}
use Rattle.share_eval.proofs.fold.add_row.Given as goal

abbrev pub invariant-loop-k : goal.invariant-loop-k
invariant-loop-k l = record {
  done : (k : ℕ) → k < l.k → slice_index l.out k ≡ plus (slice_index l.initial.out k) (l.factor * slice_index l.row k);
  rest : (k : ℕ) → l.k ≤ k → slice_index l.out k ≡ slice_index l.initial.out k;
}
