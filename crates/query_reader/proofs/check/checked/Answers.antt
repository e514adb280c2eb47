use Rattle.std.proofs.Common.{◌∙◌, ap, length, arith}
use Rattle.query_grammar.specs.Queries.{QueryParts}
use Rattle.query_reader.proofs.Few.{few_branches, narrow_key}
use Rattle.query_reader.proofs.check.checked.Goals as goal

pub overflow_cast-counts : goal.overflow_cast-counts
overflow_cast-counts c =
    let e = ap length (c.as_slice-branches.ensures ∙ ap (λ (x : QueryParts). x.branches) c.query.view_is) in
    let f = few_branches c.args.query.now c.args.schema.now c.requires in
    omega arith

pub overflow_cast-counts-2 : goal.overflow_cast-counts-2
overflow_cast-counts-2 c =
    let f = narrow_key c.args.query.now c.args.schema.now c.requires in
    omega (arith, c.key_bits.ensures)
