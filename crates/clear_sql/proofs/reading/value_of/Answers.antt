use Rattle.std.proofs.Common.{ap}
use Rattle.spl_values.specs.Shapes.{ColumnParts}
use Rattle.clear_sql.proofs.CellAnswers.{decoded, not_missing}
use Rattle.clear_sql.proofs.reading.value_of.Goals as goal

pub unreachable-requires : goal.unreachable-requires
unreachable-requires c =
    let column : ColumnParts = c.column_at-found.result.now in
    not_missing c.args.columns.now c.args.column c.args.code column c.found.inside.kind c.column_at-found.ensures (ap (λ (x : ColumnParts). x.kind) c.found.view_is) c.requires.code c.in-None.ensures

pub returns : goal.returns
returns c =
    let column : ColumnParts = c.column_at-found.result.now in
    decoded c.codes_differ.ensures c.args.columns.now c.args.column c.args.code column c.found.inside.kind c.in-Some.value c.column_at-found.ensures (ap (λ (x : ColumnParts). x.kind) c.found.view_is) c.found.invariant.typed c.requires.code
    c.in-Some.ensures.0 c.in-Some.ensures.1
