use Rattle.std.proofs.Common.{◌-◌, false, arith, sym, unwrap_or, ap}
use Rattle.std.proofs.lemmas.List.{length-take}
use Rattle.query_tokens.proofs.Scan.{ends_some, ends_within}
use Rattle.query_tokens.proofs.lexer.text_lexeme.Goals as goal

pub slice_bounds-undoubled-count : goal.slice_bounds-undoubled-count
slice_bounds-undoubled-count c = omega (arith, ends_some c.args.bytes.now c.in-Some.end (sym c.in-Some.ensures))

pub slice_bounds-undoubled-length : goal.slice_bounds-undoubled-length
slice_bounds-undoubled-length c = omega (arith, length-take (c.in-Some.end - 1) c.args.bytes.now, ends_within false c.args.bytes.now, ap (λ o. unwrap_or o 0) c.in-Some.ensures)
