use Rattle.std.proofs.Common.{◌≡◌, ◌++◌, drop, false}
use Rattle.query_tokens.specs.Tokens.{undoubled}
use Rattle.query_tokens.proofs.lexer.undoubled.Given as goal

abbrev pub invariant-loop-b : goal.invariant-loop-b
invariant-loop-b l = l.text.items ++ undoubled l.second (drop l.b-index l.bytes) ≡ undoubled false l.bytes
