use Rattle.std.proofs.Common.{◌≡◌, drop, false}
use Rattle.query_tokens.specs.Tokens.{text_end}
use Rattle.query_tokens.proofs.Scan.{end_behind}
use Rattle.query_tokens.proofs.lexer.text_end.Given as goal

abbrev pub invariant-loop-i : goal.invariant-loop-i
invariant-loop-i l = end_behind l.end l.i (text_end l.closed (drop l.i l.bytes)) ≡ text_end false l.bytes
