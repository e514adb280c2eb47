use Rattle.std.proofs.Common.{◌≡◌, ◌+◌, ◌-◌, drop}
use Rattle.spl_values.specs.Kinds.{padded}
use Rattle.spl_values.proofs.kept_texts.keep.Given as goal

abbrev pub invariant-loop-place : goal.invariant-loop-place
invariant-loop-place l = padded 16 l.text ≡ l.kept + padded (16 - l.place) (drop l.place l.text)
