use Rattle.std.proofs.Common.{◌≡◌, ◌++◌, drop}
use Rattle.combiner.specs.Combining.{added}
use Rattle.combiner.proofs.combining.add_words.Given as goal

abbrev pub invariant-loop-i : goal.invariant-loop-i
invariant-loop-i l = l.sums.items ++ added (drop l.i l.zero) (drop l.i l.one) ≡ added l.zero l.one
