use Rattle.std.proofs.Common.{◌≡◌, ◌^◌, ◌<◌, ◌≤◌, ◌++◌}
use Rattle.spl_values.specs.Kinds.{text_of, unpadded}
use Rattle.spl_values.proofs.kept_texts.bytes_of.Given as goal

abbrev pub invariant-loop-byte : goal.invariant-loop-byte
invariant-loop-byte l = record {
  below : l.rest < 256 ^ l.places;
  few : l.places ≤ 16;
  read : text_of l.kept ≡ l.text.items ++ unpadded l.places l.rest;
}

abbrev pub decreases-loop-byte : goal.decreases-loop-byte
decreases-loop-byte l = l.places
