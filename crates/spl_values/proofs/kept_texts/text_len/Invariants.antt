use Rattle.std.proofs.Common.{◌≡◌, ◌+◌, ◌^◌, ◌<◌, ◌≤◌, length}
use Rattle.std.specs.List.{list_all}
use Rattle.spl_values.specs.Kinds.{is_printable, text_of, unpadded}
use Rattle.spl_values.proofs.kept_texts.text_len.Given as goal

abbrev pub invariant-loop-byte : goal.invariant-loop-byte
invariant-loop-byte l = record {
  below : l.rest < 256 ^ l.places;
  few : l.places ≤ 16;
  tested : list_all is_printable (text_of l.kept) ≡ list_all is_printable (unpadded l.places l.rest);
  counted : length (text_of l.kept) + l.places ≡ length (unpadded l.places l.rest) + 16;
}

abbrev pub decreases-loop-byte : goal.decreases-loop-byte
decreases-loop-byte l = l.places
