use Rattle.std.proofs.Common.{ℕ, ◌<◌, ◌≤◌, get_or}
use Rattle.key_frames.specs.declared.keys.Key.{Key}
use Rattle.key_frames.specs.Keys.{depth}
use Rattle.provider_core.proofs.levels.least_depth.Given as goal

abbrev pub invariant-loop-key : goal.invariant-loop-key
invariant-loop-key l = record {
  least : (k : ℕ) (d : Key) → k < l.key-index → l.least ≤ depth (get_or l.keys k d);
  most : l.least ≤ l.bits;
}
