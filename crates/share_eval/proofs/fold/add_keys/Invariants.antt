use Rattle.std.proofs.Common.{◌≡◌, ℕ, ◌<◌, slice_index}
use Rattle.spl_words.specs.Words.{plus}
use Rattle.share_eval.specs.Sums.{share_times_word, sum_below}
use Rattle.share_eval.proofs.fold.add_keys.Given as goal

abbrev pub invariant-loop-i : goal.invariant-loop-i
invariant-loop-i g l = (k : ℕ) → k < l.width → slice_index l.out k ≡ plus (slice_index l.initial.out k) (sum_below (share_times_word (g.F.ShareFn.word l.f) l.keys l.cells l.width k) l.i)
