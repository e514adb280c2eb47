use Rattle.std.proofs.Common.{◌≡◌, drop}
use Rattle.combiner.specs.GoodWords.{good_words}
use Rattle.combiner.proofs.checking.check_words.Given as goal

abbrev pub invariant-loop-place : goal.invariant-loop-place
invariant-loop-place l = good_words l.columns l.items l.rows 0 l.words ≡ good_words l.columns l.items l.rows l.place (drop l.place l.words)
