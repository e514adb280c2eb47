use Rattle.std.proofs.Common.{◌∙◌, ap, map, ◌++◌}
use Rattle.query_grammar.specs.Queries.{QueryParts}
use Rattle.query_grammar.specs.Grammar.{where_text, Shown}
use Rattle.query_grammar.specs.Canonical.{some_parts, branch_parts}
use Rattle.query_printer.proofs.Either.{if_ok, whole}
use Rattle.query_printer.proofs.printer.put_query.Goals as goal

pub returns : goal.returns
returns c =
    let q = c.args.query.now in
    let items = c.as_slice.ensures ∙ ap (λ (x : QueryParts). x.items) c.query.view_is in
    let table = ap (λ (x : QueryParts). x.table) c.query.view_is in
    let public = c.as_slice-2.ensures ∙ ap (λ (x : QueryParts). x.public) c.query.view_is in
    let branches = c.as_slice-3.ensures ∙ ap (λ (x : QueryParts). x.branches) c.query.view_is in
    let group = ap (λ (x : QueryParts). x.group) c.query.view_is in
    let e1 = c.in_ok-symbol.ensures in
    let e2 = c.in_ok-put_items.ensures in
    let e3 = c.in_ok-symbol-2.ensures in
    let e4 = c.in_ok-name.ensures in
    let e5 = c.in_ok-put_condition.ensures in
    let w = whole c.args.printer.now q (where_text (some_parts (map Shown q.public ++ branch_parts q.branches))) in
    if_ok c.put_group.result _ _ _ c.put_group.ensures (cc)
