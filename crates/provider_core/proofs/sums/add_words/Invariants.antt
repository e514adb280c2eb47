use Rattle.std.proofs.Common.{◌≡◌, ℕ, ◌<◌, ◌≤◌, slice_index}
use Rattle.spl_words.specs.Words.{plus}
use Rattle.provider_core.proofs.sums.add_words.Given as goal

abbrev pub invariant-loop-k : goal.invariant-loop-k
invariant-loop-k l = record {
  done : (k : ℕ) → k < l.k → slice_index l.words k ≡ plus (slice_index l.initial.words k) (slice_index l.part k);
  rest : (k : ℕ) → l.k ≤ k → slice_index l.words k ≡ slice_index l.initial.words k;
}
