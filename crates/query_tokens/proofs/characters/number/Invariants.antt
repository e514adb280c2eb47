use Rattle.std.proofs.Common.{◌≡◌, ◌<◌, ◌^◌, drop}
use Rattle.query_tokens.specs.Lexing.{decimal}
use Rattle.query_tokens.proofs.characters.number.Given as goal

abbrev pub invariant-loop-d : goal.invariant-loop-d
invariant-loop-d l = (decimal l.n (drop l.d-index l.digits) ≡ decimal 0 l.digits) × (l.n < 2 ^ 64)
