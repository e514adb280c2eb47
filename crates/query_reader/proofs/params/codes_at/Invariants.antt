use Rattle.std.proofs.Common.{◌≡◌, map, drop, string_bytes}
use Rattle.query_reader.specs.Params.{word_codes, behind}
use Rattle.query_reader.proofs.params.codes_at.Given as goal

abbrev pub invariant-loop-i : goal.invariant-loop-i
invariant-loop-i l = behind l.codes.items (word_codes l.i l.schema (drop l.i l.marks) (map string_bytes (drop l.i l.words))) ≡ word_codes 0 l.schema l.marks (map string_bytes l.words)
